use Rattle.smol_str.proofs.Common.{append-nil, refl, rules}
use Rattle.smol_str.proofs.BuilderLemmas.Join.{lent-least, least-more}
use Rattle.smol_str.proofs.collect.join.min_len.Goals as goal

pub loop-piece-init : goal.loop-piece-init
loop-piece-init g c =
    let least = lent-least (λ x. x.now) (g.P.Piece.text c.args.first.now) _ _ _ c.unwrap_or-len.ensures refl c.unwrap_or-len.utf8 c.lent.ensures in
    search (rules, append-nil, least)

pub loop-piece-preserved : goal.loop-piece-preserved
loop-piece-preserved g c =
    let least = lent-least (λ x. x.now) (g.P.Piece.text c.piece-item.result) _ _ _ c.unwrap_or-next.ensures refl c.unwrap_or-next.utf8 c.lent-in-loop-piece.ensures in
    least-more g.P.Piece.text _ _ _ c.loop-piece.piece-index _ _ _ _ c.utf8.separator c.loop-piece-test.true c.piece-item.is
    c.loop-piece.invariant least
