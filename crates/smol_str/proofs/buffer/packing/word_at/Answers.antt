use Rattle.smol_str.proofs.Common.{sym, rules}
use Rattle.smol_str.proofs.BufferLemmas.Words.{word-none, word-shift}
use Rattle.smol_str.proofs.buffer.packing.word_at.Goals as goal

pub returns-then-at-len-2 : goal.returns-then-at-len-2
returns-then-at-len-2 c = sym (word-none 8 c.args.bytes.now c.args.at c.if-at-len-2.true)

pub returns : goal.returns
returns c = search (rules, word-shift)
