use Rattle.smol_str.proofs.Common.{inl, on_err_weaker, rules}
use Rattle.smol_str.proofs.CutLemmas.Bytes.{one-byte, each-replaced}
use Rattle.smol_str.proofs.CutLemmas.Replacing.{replaced-longer}
use Rattle.smol_str.proofs.str_ext.replace.replace.Goals as goal

pub replace_byte-requires : goal.replace_byte-requires
replace_byte-requires c = search (rules, one-byte)

pub returns-then-count-text : goal.returns-then-count-text
returns-then-count-text c = search (rules, one-byte, each-replaced) fits 60

pub returns-then-text-from-clause-ok : goal.returns-then-text-from-clause-ok
returns-then-text-from-clause-ok c =
    rw (replaced-longer _ _ _ _ c.utf8.text c.utf8.from c.if-text-from.true) c.new.ensures.ok

pub returns-then-text-from-clause-refused : goal.returns-then-text-from-clause-refused
returns-then-text-from-clause-refused c =
    rw (replaced-longer _ _ _ _ c.utf8.text c.utf8.from c.if-text-from.true)
    (on_err_weaker c.new.result (λ away short. away (inl short)) c.new.ensures.refused)
