-- The separator and the text of each piece so far.
use Rattle.smol_str.proofs.Common.{◌≡◌, ◌++◌, take, flat_map, chars, appended}
use Rattle.smol_str.proofs.collect.join.append_others.Given as goal

abbrev pub invariant-loop-piece : goal.invariant-loop-piece
invariant-loop-piece g l =
    l.builder ≡ appended l.initial.builder (flat_map (λ piece. chars l.separator ++ g.P.Piece.text piece) (take l.piece-index l.others))
