-- What is gathered is what the reader gave.
use Rattle.smol_str.proofs.Common.{◌-◌, ◌≤◌, length, Consumes}
use Rattle.smol_str.proofs.stream.read_up_to.Given as goal

abbrev pub invariant-loop-chunk : goal.invariant-loop-chunk
invariant-loop-chunk g l =
    (length l.all.items ≤ l.limit) ×
    Consumes (g.R.Read.remaining l.initial.reader) (g.R.Read.remaining l.reader) l.all.items

abbrev pub decreases-loop-chunk : goal.decreases-loop-chunk
decreases-loop-chunk g l = l.limit - length l.all.items
