-- What is gone from what is left was appended.
use Rattle.smol_str.proofs.Common.{◌≡◌, ℕ, List, ◌++◌, length, Appends}
use Rattle.smol_str.proofs.stream.write_fully.Given as goal

abbrev pub invariant-loop-rest : goal.invariant-loop-rest
invariant-loop-rest g l =
    (done : List ℕ) × (l.bytes ≡ done ++ l.rest) ×
    Appends (g.W.Write.contents l.initial.writer) (g.W.Write.contents l.writer) done

abbrev pub decreases-loop-rest : goal.decreases-loop-rest
decreases-loop-rest g l = length l.rest
