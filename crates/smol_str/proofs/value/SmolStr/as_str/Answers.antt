use Rattle.smol_str.proofs.Common.{encodes-chars, scalars-chars, rules}
use Rattle.smol_str.proofs.value.SmolStr.as_str.Goals as goal

pub returns-in-Static : goal.returns-in-Static
returns-in-Static c = search (rules, encodes-chars, scalars-chars)

pub returns-in-Heap : goal.returns-in-Heap
returns-in-Heap c = search (rules, encodes-chars, scalars-chars)
