use Rattle.smol_str.proofs.Common.{rules}
use Rattle.smol_str.proofs.BufferLemmas.Packed.{buffer-padded}
use Rattle.smol_str.proofs.buffer.InlineText.buffer.Goals as goal

pub returns : goal.returns
returns c = search (rules, buffer-padded)
