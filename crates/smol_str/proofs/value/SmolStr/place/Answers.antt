use Rattle.smol_str.proofs.Common.{rules}
use Rattle.smol_str.proofs.TextLemmas.Places.{place_of-short, place_of-heap}
use Rattle.smol_str.proofs.value.SmolStr.place.Goals as goal

pub returns-in-Inline-clause-by_text : goal.returns-in-Inline-clause-by_text
returns-in-Inline-clause-by_text c = search (rules, place_of-short)

pub returns-in-Heap-clause-by_text : goal.returns-in-Heap-clause-by_text
returns-in-Heap-clause-by_text c = search (rules, place_of-heap)
