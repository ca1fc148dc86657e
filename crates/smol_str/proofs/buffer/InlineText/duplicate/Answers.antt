use Rattle.smol_str.proofs.BufferLemmas.Packed.{IsShort-packed}
use Rattle.smol_str.proofs.buffer.InlineText.duplicate.Goals as goal

pub returns-clause-short : goal.returns-clause-short
returns-clause-short c = rw (← c.self.view_is) (IsShort-packed _ c.self.invariant)
