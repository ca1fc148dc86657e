-- No match begins before the byte in front of the index.
use Rattle.smol_str.proofs.Common.{◌-◌, ◌<◌, length}
use Rattle.memchr.specs.Find.{Nowhere, OccursAt}
use Rattle.smol_str.proofs.bytes.search.find_two_by_one.Given as goal

abbrev pub invariant-loop-at : goal.invariant-loop-at
invariant-loop-at l = (0 < l.at) × Nowhere (OccursAt l.bytes l.needle) 0 (l.at - 1)

abbrev pub decreases-loop-at : goal.decreases-loop-at
decreases-loop-at l = length l.bytes - l.at
