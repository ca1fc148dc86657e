use Rattle.smol_str.proofs.Common.{chars}
use Rattle.smol_str.proofs.BuilderLemmas.Join.{heap-at}
use Rattle.smol_str.proofs.BuilderLemmas.Push.{appended-heap}
use Rattle.smol_str.proofs.BuilderLemmas.State.{appended-twice}
use Rattle.smol_str.proofs.TextLemmas.Results.{OnErr-always}
use Rattle.smol_str.proofs.collect.join.append_others.Goals as goal

pub returns-in_err-push_str_heap_first-clause-refused : goal.returns-in_err-push_str_heap_first-clause-refused
returns-in_err-push_str_heap_first-clause-refused g c =
    let heap = appended-heap c.loop-piece.builder (chars c.args.separator.now) (g.P.Piece.text c.piece-item.result) c.in_err-push_str_heap_first.ensures.refused in
    OnErr-always c.from_residual.result _ (heap-at _ _ _ _ c.loop-piece.piece-index _ c.loop-piece-test.true c.piece-item.is
    c.loop-piece.invariant heap)

pub returns-in_err-append_to-clause-refused : goal.returns-in_err-append_to-clause-refused
returns-in_err-append_to-clause-refused g c =
    let both = appended-twice c.loop-piece.builder (chars c.args.separator.now) (g.P.Piece.text c.piece-item.result) in
    OnErr-always c.from_residual-in_err-append_to.result _ (heap-at _ _ _ _ c.loop-piece.piece-index _ c.loop-piece-test.true c.piece-item.is
    c.loop-piece.invariant (cc (both, c.in_ok-push_str_heap_first.ensures.ok, c.in_err-append_to.ensures.refused)))
