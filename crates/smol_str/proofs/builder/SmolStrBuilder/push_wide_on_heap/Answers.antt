use Rattle.smol_str.proofs.Common.{arith, rules}
use Rattle.smol_str.proofs.TextLemmas.Results.{OnOk-if}
use Rattle.smol_str.proofs.TextLemmas.Chars.{chars-one, chars-pushed}
use Rattle.smol_str.proofs.builder.SmolStrBuilder.push_wide_on_heap.Goals as goal

pub returns-in-Heap-clause-ok : goal.returns-in-Heap-clause-ok
returns-in-Heap-clause-ok c = search (rules, arith, OnOk-if, chars-pushed) fits 60

pub push_on_heap-requires : goal.push_on_heap-requires
push_on_heap-requires c = search (rules, chars-one)

pub returns-clause-ok : goal.returns-clause-ok
returns-clause-ok c = search (rules, chars-one)
