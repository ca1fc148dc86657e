-- The builder is the first one with the texts of the items so far.
use Rattle.smol_str.proofs.Common.{◌≡◌, appended, joined}
use Rattle.smol_str.proofs.collect.append_all.Given as goal

abbrev pub invariant-loop-piece : goal.invariant-loop-piece
invariant-loop-piece g l = l.builder ≡ appended l.fn.builder (joined g.P.Piece.text l.yielded)
