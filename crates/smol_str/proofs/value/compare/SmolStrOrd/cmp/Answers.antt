use Rattle.smol_str.proofs.Common.{rules}
use Rattle.smol_str.proofs.TextLemmas.Order.{order-texts}
use Rattle.smol_str.proofs.value.compare.SmolStrOrd.cmp.Goals as goal

pub returns-in-Inline-Inline-clause-bytes : goal.returns-in-Inline-Inline-clause-bytes
returns-in-Inline-Inline-clause-bytes c = search (rules, order-texts)

pub returns-in_default-clause-bytes : goal.returns-in_default-clause-bytes
returns-in_default-clause-bytes c = search (rules, order-texts)
