-- The bytes so far are plain.
use Rattle.std.proofs.Common.{◌≤◌, ◌-◌}
use Rattle.std.specs.List.{prefix_len}
use Rattle.smol_str.specs.Plain.{is_plain}
use Rattle.smol_str.proofs.bytes.plain.plain_len_by.Given as goal

abbrev pub invariant-loop-at : goal.invariant-loop-at
invariant-loop-at g l = l.at ≤ prefix_len is_plain l.bytes

abbrev pub decreases-loop-at : goal.decreases-loop-at
decreases-loop-at g l = l.last - l.at
