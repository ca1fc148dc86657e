use Rattle.smol_str.proofs.Common.{◌≡◌, ◌*◌, ◌+◌, ◌%◌, ◌^◌, ◌<◌, arith, ℕ, sym, rules}
use Rattle.smol_str.specs.Words.{word}
use Rattle.smol_str.proofs.BufferLemmas.Words.{word-halves, word-below, word-none, word-few}
use Rattle.smol_str.proofs.buffer.packing.front_word.Goals as goal

-- the two halves
halves : (low high whole : ℕ) → whole ≡ low + 4294967296 * high → whole < 2 ^ 64 →
    low + high * 4294967296 % 18446744073709551616 ≡ whole
halves low high whole e h = omega arith

pub returns-then-len-ge4 : goal.returns-then-len-ge4
returns-then-len-ge4 c = search (rules, word-halves, word-below)

pub overflow_add-result : goal.overflow_add-result
overflow_add-result c = search (rules, word-below)

pub returns-in-0 : goal.returns-in-0
returns-in-0 c = sym (word-none 8 c.args.bytes.now 0 (omega arith))

pub returns-in-1 : goal.returns-in-1
unfolding word
returns-in-1 c = let few = word-few 7 1 c.args.bytes.now (omega arith) in omega (arith, few)

pub returns-in-2 : goal.returns-in-2
unfolding word
returns-in-2 c = let few = word-few 6 2 c.args.bytes.now (omega arith) in omega (arith, few)

pub returns-in_default : goal.returns-in_default
unfolding word
returns-in_default c = let few = word-few 5 3 c.args.bytes.now (omega arith) in omega (arith, few)
