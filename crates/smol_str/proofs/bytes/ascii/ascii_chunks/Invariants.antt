-- The chunks so far are ASCII.
use Rattle.smol_str.proofs.Common.{◌-◌, length, IsAsciiFront}
use Rattle.smol_str.proofs.bytes.ascii.ascii_chunks.Given as goal

abbrev pub invariant-loop-at : goal.invariant-loop-at
invariant-loop-at l = IsAsciiFront l.bytes l.at

abbrev pub decreases-loop-at : goal.decreases-loop-at
decreases-loop-at l = length l.bytes - l.at
