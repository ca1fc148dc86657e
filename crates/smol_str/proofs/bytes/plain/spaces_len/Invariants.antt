-- The bytes so far are white space.
use Rattle.std.proofs.Common.{◌≤◌, ◌-◌, length}
use Rattle.std.specs.List.{prefix_len}
use Rattle.smol_str.specs.Plain.{is_space}
use Rattle.smol_str.proofs.bytes.plain.spaces_len.Given as goal

abbrev pub invariant-loop-at : goal.invariant-loop-at
invariant-loop-at l = l.at ≤ prefix_len is_space l.bytes

abbrev pub decreases-loop-at : goal.decreases-loop-at
decreases-loop-at l = length l.bytes - l.at
