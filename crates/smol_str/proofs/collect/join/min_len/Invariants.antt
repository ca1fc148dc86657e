-- No more than the bytes of the texts so far.
use Rattle.smol_str.proofs.Common.{◌≤◌, ◌++◌, take, flat_map, chars, size}
use Rattle.smol_str.proofs.collect.join.min_len.Given as goal

abbrev pub invariant-loop-piece : goal.invariant-loop-piece
invariant-loop-piece g l = l.len ≤ size (g.P.Piece.text l.first
    ++ flat_map (λ piece. chars l.separator ++ g.P.Piece.text piece) (take l.piece-index l.others))
