-- The characters that are left decide as all of them do.
use Rattle.smol_str.proofs.Common.{◌≡◌, IsUtf8, chars}
use Rattle.std.specs.Str.Iter.{chars_rest}
use Rattle.std.specs.StrCase.Lower.{starts_with_cased}
use Rattle.smol_str.proofs.str_ext.sigma.starts_with_cased.Given as goal

abbrev pub invariant-loop-character : goal.invariant-loop-character
invariant-loop-character l = IsUtf8 (chars_rest l.character-iterator)
    × (starts_with_cased (chars (chars_rest l.character-iterator)) ≡ starts_with_cased (chars l.fn.text))
