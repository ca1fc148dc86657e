-- What is filled is what the reader gave.
use Rattle.smol_str.proofs.Common.{◌-◌, ◌≤◌, length, take, Consumes}
use Rattle.smol_str.proofs.stream.fill.Given as goal

abbrev pub invariant-loop-filled : goal.invariant-loop-filled
invariant-loop-filled g l =
    (l.filled ≤ length l.buf) ×
    Consumes (g.R.Read.remaining l.initial.reader) (g.R.Read.remaining l.reader) (take l.filled l.buf)

abbrev pub decreases-loop-filled : goal.decreases-loop-filled
decreases-loop-filled g l = length l.buf - l.filled
