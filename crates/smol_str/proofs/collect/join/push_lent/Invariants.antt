-- The texts so far are there.
use Rattle.smol_str.proofs.Common.{◌≡◌, ◌++◌, take, flat_map, chars, IsUtf8}
use Rattle.smol_str.proofs.collect.join.push_lent.Given as goal

abbrev pub invariant-loop-piece : goal.invariant-loop-piece
invariant-loop-piece g l = IsUtf8 l.bytes.items
    × (chars l.bytes.items ≡ chars l.first ++ flat_map (λ piece. chars l.separator ++ g.P.Piece.text piece) (take l.piece-index l.others))
