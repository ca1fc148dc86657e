use Rattle.smol_str.proofs.BufferLemmas.Packed.{same-texts}
use Rattle.smol_str.proofs.buffer.InlineText.equal_by_words.Goals as goal

pub returns : goal.returns
returns c = rw (← c.self.view_is, ← c.other.view_is, c.equal_words.ensures)
    (same-texts _ _ c.self.invariant c.other.invariant)
