use Rattle.smol_str.proofs.Common.{take-take, rules}
use Rattle.smol_str.proofs.BufferLemmas.Words.{read-four}
use Rattle.smol_str.proofs.buffer.packing.read_u32.Goals as goal

pub returns : goal.returns
returns c = search (rules, take-take, read-four)
