use Rattle.smol_str.proofs.Common.{rules}
use Rattle.smol_str.proofs.TextLemmas.Order.{order-texts}
use Rattle.smol_str.proofs.value.compare.order_as_str.Goals as goal

pub returns : goal.returns
returns c = search (rules, order-texts)
