-- No match begins before the index.
use Rattle.smol_str.proofs.Common.{◌-◌}
use Rattle.memchr.specs.Find.{Nowhere, OccursAt}
use Rattle.smol_str.proofs.bytes.search.find_two.Given as goal

abbrev pub invariant-loop-at : goal.invariant-loop-at
invariant-loop-at l = Nowhere (OccursAt l.bytes l.needle) 0 l.at

abbrev pub decreases-loop-at : goal.decreases-loop-at
decreases-loop-at l = l.last - l.at
