use Rattle.smol_str.proofs.Common.{take_rest, rules}
use Rattle.smol_str.proofs.BufferLemmas.Words.{two-ends}
use Rattle.smol_str.proofs.buffer.packing.put_ends.Goals as goal

pub returns : goal.returns
returns g c = search (rules, two-ends, take_rest)
