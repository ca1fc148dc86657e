use Rattle.smol_str.proofs.Common.{chars, on_err_weaker}
use Rattle.smol_str.proofs.TextLemmas.Results.{OnErr-always}
use Rattle.smol_str.proofs.CaseLemmas.Full.{full-ascii, ascii-refused, begun-all, begun-refused}
use Rattle.smol_str.proofs.str_ext.full_case.any_full_case.Goals as goal

pub returns-then-len-text-clause-ok : goal.returns-then-len-text-clause-ok
returns-then-len-text-clause-ok c =
    let ascii = begun-all c.args.case _ _ c.utf8.text (rw c.as_bytes.ensures.value at c.front_len-len.ensures.all) c.if-len-text.true in
    rw (full-ascii c.args.case (chars c.args.text.now) ascii) c.to_ascii_case.ensures.ok

pub returns-then-len-text-clause-refused : goal.returns-then-len-text-clause-refused
returns-then-len-text-clause-refused c =
    let ascii = begun-all c.args.case _ _ c.utf8.text (rw c.as_bytes.ensures.value at c.front_len-len.ensures.all) c.if-len-text.true in
    on_err_weaker c.to_ascii_case.result (ascii-refused c.args.case (chars c.args.text.now) ascii) c.to_ascii_case.ensures.refused

pub returns-in_err-builder-clause-refused : goal.returns-in_err-builder-clause-refused
returns-in_err-builder-clause-refused c =
    OnErr-always c.from_residual.result _
    (begun-refused c.args.case _ _ c.utf8.text (rw c.as_bytes.ensures.value at c.front_len-len.ensures.all) c.in_err-builder.ensures.refused)
