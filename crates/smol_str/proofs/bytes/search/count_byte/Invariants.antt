-- The index is past the last lanes by no more than they are long.
use Rattle.smol_str.proofs.Common.{◌+◌, ◌-◌, ◌<◌}
use Rattle.smol_str.specs.declared.bytes.search.TheConstants.{SEARCH_LANES}
use Rattle.smol_str.proofs.bytes.search.count_byte.Given as goal

abbrev pub invariant-loop-at : goal.invariant-loop-at
invariant-loop-at l = l.at < l.last + SEARCH_LANES

abbrev pub decreases-loop-at : goal.decreases-loop-at
decreases-loop-at l = l.last - l.at
