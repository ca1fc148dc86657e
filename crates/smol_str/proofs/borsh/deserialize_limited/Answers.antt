use Rattle.smol_str.proofs.Common.{arith}
use Rattle.smol_str.proofs.TextLemmas.Results.{IfErr-is}
use Rattle.smol_str.proofs.WireLemmas.Borsh.{AfterLimitedFault-of_fault}
use Rattle.smol_str.proofs.borsh.deserialize_limited.Goals as goal

pub returns-in_err-size-clause-fault : goal.returns-in_err-size-clause-fault
returns-in_err-size-clause-fault g c =
    IfErr-is _ _ _ c.from_residual.ensures.1 (c.in_err-size.ensures.limited c.args.limit)

pub returns-in_err-read_body-clause-fault : goal.returns-in_err-read_body-clause-fault
returns-in_err-read_body-clause-fault g c =
    let size = c.in_ok-size.ensures.ok in
    IfErr-is _ _ _ c.from_residual-in_err-read_body.ensures.1
    (AfterLimitedFault-of_fault c.in_ok-size.size size.0 _ _ _ _ _ size.1 (omega arith) c.in_err-read_body.ensures.fault)
