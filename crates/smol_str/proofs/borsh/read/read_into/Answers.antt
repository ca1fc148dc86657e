use Rattle.smol_str.proofs.Common.{rules}
use Rattle.smol_str.proofs.TextLemmas.Results.{IfErr-is}
use Rattle.smol_str.proofs.WireLemmas.Borsh.{AfterBodyFault-of_text}
use Rattle.smol_str.proofs.borsh.read.read_into.Goals as goal

pub returns-in_err-from_utf8-clause-fault : goal.returns-in_err-from_utf8-clause-fault
returns-in_err-from_utf8-clause-fault g c =
    IfErr-is _ _ _ c.from_residual-in_err-from_utf8.ensures.1
    (AfterBodyFault-of_text _ _ _ c.fill_all.new.buffer c.in_err-from_utf8.field-0.0 (search rules)
    c.in_ok-fill_all.ensures.ok c.in_err-from_utf8.ensures.fault)
