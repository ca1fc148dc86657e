use Rattle.smol_str.proofs.Common.{rules, IsUtf8-encode}
use Rattle.smol_str.proofs.TextLemmas.Sizes.{short_encode}
use Rattle.smol_str.proofs.TextLemmas.Chars.{chars-one}
use Rattle.smol_str.proofs.BufferLemmas.Packed.{IsPacked-packed, unpacked-packed}
use Rattle.smol_str.proofs.buffer.InlineText.from_char.Goals as goal

pub invariant_of-result : goal.invariant_of-result
invariant_of-result c = search (rules, IsUtf8-encode, IsPacked-packed, short_encode)

pub returns : goal.returns
returns c = search (rules, IsUtf8-encode, unpacked-packed, short_encode, chars-one)
