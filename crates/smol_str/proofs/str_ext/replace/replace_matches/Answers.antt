use Rattle.smol_str.proofs.Common.{inl, on_err_weaker}
use Rattle.smol_str.proofs.CutLemmas.Replacing.{rest-whole, replaced-absent}
use Rattle.smol_str.proofs.str_ext.replace.replace_matches.Goals as goal

pub returns-then-is_none-clause-ok : goal.returns-then-is_none-clause-ok
returns-then-is_none-clause-ok c =
    let none = rw (c.as_bytes.ensures.value, c.as_bytes-then-not-is_empty.ensures.value) at c.first_byte.ensures.none in
    rw (replaced-absent _ _ _ _ c.utf8.text c.utf8.from _ _ c.is_none.ensures c.if-is_none.true none) c.new.ensures.ok

pub returns-then-is_none-clause-refused : goal.returns-then-is_none-clause-refused
returns-then-is_none-clause-refused c =
    let none = rw (c.as_bytes.ensures.value, c.as_bytes-then-not-is_empty.ensures.value) at c.first_byte.ensures.none in
    rw (replaced-absent _ _ _ _ c.utf8.text c.utf8.from _ _ c.is_none.ensures c.if-is_none.true none)
    (on_err_weaker c.new.result (λ away short. away (inl short)) c.new.ensures.refused)

pub returns-clause-ok : goal.returns-clause-ok
returns-clause-ok c =
    rw (rest-whole _ _ _ _ _ _ c.in_ok-index.ensures.ok c.utf8.text _
    (rw c.range_from.ensures.value at c.in_ok-push_str.ensures.ok)) at c.into_value.ensures.ok
