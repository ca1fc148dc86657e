-- The byte is not among those that were tested.
use Rattle.smol_str.proofs.Common.{◌≤◌, ◌-◌, length}
use Rattle.memchr.specs.Find.{Nowhere, Passes, is_byte}
use Rattle.smol_str.proofs.bytes.search.first_index.Given as goal

abbrev pub invariant-loop-at : goal.invariant-loop-at
invariant-loop-at l = (l.at ≤ length l.bytes) × Nowhere (Passes (is_byte l.byte) l.bytes) 0 l.at

abbrev pub decreases-loop-at : goal.decreases-loop-at
decreases-loop-at l = 64 - l.at
