use Rattle.smol_str.proofs.Common.{◌∙◌}
use Rattle.smol_str.proofs.TextLemmas.Results.{IfErr-is}
use Rattle.smol_str.proofs.WireLemmas.Borsh.{begun-in_prefix, begun-in_bytes}
use Rattle.smol_str.proofs.borsh.SmolStrBorshSerialize.serialize.Goals as goal

pub returns-in_err-write_fully-clause-fault : goal.returns-in_err-write_fully-clause-fault
returns-in_err-write_fully-clause-fault g c =
    IfErr-is _ _ _ c.from_residual.ensures.1
    (begun-in_prefix _ _ _ (c.as_bytes-bytes.ensures.value ∙ c.as_str.ensures.bytes) c.in-Some.ensures _ _
    c.in_err-write_fully.ensures.beginning)

pub returns-in_err-write_fully-2-clause-fault : goal.returns-in_err-write_fully-2-clause-fault
returns-in_err-write_fully-2-clause-fault g c =
    IfErr-is _ _ _ c.from_residual-in_err-write_fully-2.ensures.1
    (begun-in_bytes _ _ _ (c.as_bytes-bytes.ensures.value ∙ c.as_str.ensures.bytes) c.in-Some.ensures _ _ _
    c.in_ok-write_fully.ensures.ok c.in_err-write_fully-2.ensures.beginning)
