use Rattle.smol_str.proofs.Common.{◌∙◌}
use Rattle.smol_str.proofs.BufferLemmas.WordOrder.{order-packed}
use Rattle.smol_str.proofs.buffer.InlineText.order.Goals as goal

pub returns : goal.returns
returns c = rw (← c.self.view_is, ← c.other.view_is)
    (c.order_words.ensures ∙ order-packed _ _ c.self.invariant c.other.invariant)
