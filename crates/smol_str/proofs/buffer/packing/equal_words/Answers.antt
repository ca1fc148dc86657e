use Rattle.smol_str.proofs.Common.{arith, rules}
use Rattle.smol_str.proofs.BufferLemmas.Words.{same-step}
use Rattle.smol_str.proofs.buffer.packing.equal_words.Goals as goal

pub loop-i-preserved : goal.loop-i-preserved
loop-i-preserved c = search (rules, arith, same-step)
