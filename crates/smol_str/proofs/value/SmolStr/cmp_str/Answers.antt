use Rattle.smol_str.proofs.Common.{rules, encodes-chars}
use Rattle.smol_str.proofs.TextLemmas.Order.{order-texts}
use Rattle.smol_str.proofs.value.SmolStr.cmp_str.Goals as goal

pub returns-in_default-clause-texts : goal.returns-in_default-clause-texts
returns-in_default-clause-texts c = search (rules, encodes-chars, order-texts)

pub returns-in-Inline-clause-bytes : goal.returns-in-Inline-clause-bytes
returns-in-Inline-clause-bytes c = search (rules, order-texts, encodes-chars)
