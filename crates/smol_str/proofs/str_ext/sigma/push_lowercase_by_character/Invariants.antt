-- The builder has what is before the characters that are left.
use Rattle.smol_str.proofs.Common.{length, IsUtf8, chars}
use Rattle.std.specs.Str.Iter.{chars_rest}
use Rattle.smol_str.specs.CaseParts.{IsLowered}
use Rattle.smol_str.proofs.str_ext.sigma.push_lowercase_by_character.Given as goal

abbrev pub invariant-loop-character : goal.invariant-loop-character
invariant-loop-character l = IsUtf8 (chars_rest l.rest) × IsLowered (chars l.fn.text) l.builder (chars (chars_rest l.rest))

abbrev pub decreases-loop-character : goal.decreases-loop-character
decreases-loop-character l = length (chars_rest l.rest)
