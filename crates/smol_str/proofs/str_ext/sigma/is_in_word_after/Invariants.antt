-- The characters that are left decide as all of them do.
use Rattle.smol_str.proofs.Common.{◌≡◌, false, length, IsUtf8, chars}
use Rattle.std.specs.Str.Iter.{chars_rest}
use Rattle.smol_str.specs.CaseParts.{word_after}
use Rattle.smol_str.proofs.str_ext.sigma.is_in_word_after.Given as goal

abbrev pub invariant-loop-character : goal.invariant-loop-character
invariant-loop-character l = IsUtf8 (chars_rest l.rest)
    × (word_after false (chars (chars_rest l.rest)) ≡ word_after false (chars l.fn.text))

abbrev pub decreases-loop-character : goal.decreases-loop-character
decreases-loop-character l = length (chars_rest l.rest)
