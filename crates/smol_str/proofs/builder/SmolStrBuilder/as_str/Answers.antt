use Rattle.smol_str.proofs.Common.{encodes-chars, scalars-chars, rules, arith}
use Rattle.smol_str.proofs.builder.SmolStrBuilder.as_str.Goals as goal

pub returns-in-Heap : goal.returns-in-Heap
returns-in-Heap c = search (rules, arith, encodes-chars, scalars-chars)
