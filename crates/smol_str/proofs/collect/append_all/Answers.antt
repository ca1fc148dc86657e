use Rattle.std.proofs.iter.Next.{said}
use Rattle.smol_str.proofs.BuilderLemmas.Collect.{appended-last, all-appended, stopped-at}
use Rattle.smol_str.proofs.Common.{[], ◌∷◌, ◌++◌, refl}
use Rattle.smol_str.proofs.TextLemmas.Results.{OnErr-always}
use Rattle.smol_str.proofs.collect.append_all.Goals as goal

pub loop-piece-preserved : goal.loop-piece-preserved
loop-piece-preserved g c = appended-last g.P.Piece.text _ _ _ _ _ c.loop-piece.invariant c.in_ok-append_to.ensures.ok

pub returns-in_err-append_to-clause-stopped : goal.returns-in_err-append_to-clause-stopped
returns-in_err-append_to-clause-stopped g c =
    let yielded = rw c.into_iter-piece-iterator.ensures.into_iter_gives at c.loop-piece.yielded_by in
    let items = c.loop-piece.yielded in
    let x = c.in-Some.piece in
    let all = appended-last g.P.Piece.text _ _ _ items x c.loop-piece.invariant refl in
    let stopped = stopped-at g.I.Iterator.next_gives c.args.iter g.P.Piece.texts items c.args.builder.now c.loop-piece.builder
    (cc (c.loop-piece.invariant, g.met.P.Piece.joins items)) x c.next.new.self
    (c.loop-piece.piece-iterator, yielded, c.in-Some.ensures.steps) (cc (all, g.met.P.Piece.joins (items ++ x ∷ []), c.in_err-append_to.ensures.refused)) in
    rw c.in_err-append_to.ensures.unchanged (OnErr-always c.from_residual.result _ stopped)

pub returns-clause-ok : goal.returns-clause-ok
returns-clause-ok g c =
    let drained = rw c.into_iter-piece-iterator.ensures.into_iter_gives at c.loop-piece.yielded_by in
    all-appended g.I.Iterator.next_gives c.args.iter g.P.Piece.texts c.loop-piece.yielded c.args.builder.now _
    (cc (c.loop-piece.invariant, g.met.P.Piece.joins c.loop-piece.yielded))
    (c.next.new.self, (c.loop-piece.piece-iterator, drained, said g.I.Iterator.next_gives (cc) c.next.ensures.steps))
