use Rattle.smol_str.proofs.Common.{◌≡◌, ◌%◌, ◌/◌, ℕ, arith}
use Rattle.std.specs.Int.Bits.{bit_and}
use Rattle.std.proofs.lemmas.Nat.{and_mask}
use Rattle.smol_str.specs.Words.{word}
use Rattle.smol_str.proofs.TextLemmas.Utf8.{is_one, is_two, is_three, is_four}
use Rattle.smol_str.proofs.buffer.packing.char_word.Goals as goal

masked : (n : ℕ) → bit_and n 63 ≡ n % 64
masked n = and_mask n 6

pub returns-then-code-lt128 : goal.returns-then-code-lt128
unfolding word
returns-then-code-lt128 c = rw (is_one c.args.character c.if-code-lt128.true) (omega arith)

pub returns-then-code-lt2048 : goal.returns-then-code-lt2048
unfolding word
returns-then-code-lt2048 c = rw (is_two c.args.character c.if-code-lt128.false c.if-code-lt2048.true)
    (rw (masked c.args.character) (omega arith))

pub returns-then-code-lt65536 : goal.returns-then-code-lt65536
unfolding word
returns-then-code-lt65536 c = rw (is_three c.args.character c.if-code-lt2048.false c.if-code-lt65536.true)
    (rw (masked c.args.character, masked (c.args.character / 64)) (omega arith))

pub returns : goal.returns
unfolding word
returns c = rw (is_four c.args.character c.if-code-lt65536.false)
    (rw (masked c.args.character, masked (c.args.character / 64), masked (c.args.character / 4096)) (omega arith))
