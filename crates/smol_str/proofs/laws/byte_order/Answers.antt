use Rattle.smol_str.proofs.TextLemmas.Order.{order-texts}
use Rattle.smol_str.proofs.laws.byte_order.Goals as goal

pub returns : goal.returns
returns c = order-texts
