use Rattle.smol_str.proofs.Common.{take-take, rules}
use Rattle.smol_str.proofs.BufferLemmas.Words.{read-eight}
use Rattle.smol_str.proofs.bytes.words.read_u64.Goals as goal

pub returns : goal.returns
returns c = search (rules, take-take, read-eight)
