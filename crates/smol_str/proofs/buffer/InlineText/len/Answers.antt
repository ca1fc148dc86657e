use Rattle.smol_str.proofs.Common.{rules}
use Rattle.smol_str.proofs.BufferLemmas.Packed.{len-size, IsShort-packed}
use Rattle.smol_str.proofs.buffer.InlineText.len.Goals as goal

pub returns : goal.returns
returns c = search (rules, len-size, IsShort-packed)
