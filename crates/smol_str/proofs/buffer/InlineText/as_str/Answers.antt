use Rattle.smol_str.proofs.Common.{encodes-chars, scalars-chars, rules}
use Rattle.smol_str.proofs.BufferLemmas.Packed.{IsShort-packed}
use Rattle.smol_str.proofs.buffer.InlineText.as_str.Goals as goal

pub returns : goal.returns
returns c = search (rules, encodes-chars, scalars-chars, IsShort-packed)
