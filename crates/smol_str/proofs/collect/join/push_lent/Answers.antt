use Rattle.smol_str.proofs.Common.{rules, chars}
use Rattle.smol_str.proofs.BuilderLemmas.Join.{written-next}
use Rattle.smol_str.proofs.collect.join.push_lent.Goals as goal

pub loop-piece-preserved : goal.loop-piece-preserved
loop-piece-preserved g c =
    let (utf8, text) = c.loop-piece.invariant in
    let piece = c.in_ok-lent.field-0.now in
    written-next g.P.Piece.text (chars c.args.first.now) c.args.separator.now c.args.others.now c.loop-piece.piece-index
    c.piece-item.result c.loop-piece.bytes.items piece c.push_in_room-in-loop-piece.new.bytes.items utf8 c.utf8.separator
    (search rules) c.loop-piece-test.true c.piece-item.is text c.in_ok-lent.ensures
    (cc (c.in_ok-push_in_room-2.ensures, c.in_ok-push_separator.ensures))
