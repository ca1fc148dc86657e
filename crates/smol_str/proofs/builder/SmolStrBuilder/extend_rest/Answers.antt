use Rattle.std.proofs.iter.Next.{said}
use Rattle.std.proofs.lemmas.Result.{IfErr-weaker}
use Rattle.smol_str.specs.BuilderArms.{heap_builder}
use Rattle.smol_str.proofs.BuilderLemmas.Collect.{all-appended, stopped-at, all-next, stopped-next}
use Rattle.smol_str.proofs.BuilderLemmas.State.{appended-twice}
use Rattle.smol_str.proofs.Common.{◌≡◌, [], ◌∷◌, inr, arith, rules, appended, IfOk-weaker}
use Rattle.smol_str.proofs.TextLemmas.Results.{OnErr-always}
use Rattle.smol_str.proofs.builder.SmolStrBuilder.extend_rest.Goals as goal

pub returns-in-Heap-clause-ok : goal.returns-in-Heap-clause-ok
returns-in-Heap-clause-ok g c =
    let old = c.args.self.now in
    let now : heap_builder c.in-Heap.heap ≡ appended old (c.args.first ∷ []) = search rules in
    IfOk-weaker c.extend_heap.result _ _
    (λ _ all. all-next g.I.Iterator.next_gives c.args.iter old (heap_builder c.in-Heap.heap) (heap_builder c.extend_heap.new.heap) c.args.first now all) c.extend_heap.ensures.ok

pub returns-in-Heap-clause-stopped : goal.returns-in-Heap-clause-stopped
returns-in-Heap-clause-stopped g c =
    let old = c.args.self.now in
    let now : heap_builder c.in-Heap.heap ≡ appended old (c.args.first ∷ []) = search rules in
    IfErr-weaker c.extend_heap.result _ _
    (λ _ all. inr (stopped-next g.I.Iterator.next_gives c.args.iter old (heap_builder c.in-Heap.heap) (heap_builder c.extend_heap.new.heap) c.args.first now all)) c.extend_heap.ensures.stopped

pub loop-character-preserved : goal.loop-character-preserved
loop-character-preserved g c = search (rules, arith, appended-twice)

pub returns-in_err-push_heap_first-clause-stopped : goal.returns-in_err-push_heap_first-clause-stopped
returns-in_err-push_heap_first-clause-stopped g c =
    let now = c.loop-character in
    let first = c.args.first in
    let x = c.in-Some.character in
    let yielded = rw c.into_iter-character-iterator.ensures.into_iter_gives at now.yielded_by in
    let joins = appended-twice c.args.self.now (first ∷ now.yielded) (x ∷ []) in
    let stopped = stopped-at g.I.Iterator.next_gives c.args.iter (λ items. first ∷ items) now.yielded c.args.self.now now.self
    now.invariant x c.next.new.self (now.character-iterator, yielded, c.in-Some.ensures.steps)
    (cc (now.invariant, joins, c.in_err-push_heap_first.ensures.refused)) in
    rw c.in_err-push_heap_first.ensures.unchanged (OnErr-always c.from_residual-in_err-push_heap_first.result _ (inr stopped))

pub returns-clause-ok : goal.returns-clause-ok
returns-clause-ok g c =
    let now = c.loop-character in
    let drained = rw c.into_iter-character-iterator.ensures.into_iter_gives at now.yielded_by in
    all-appended g.I.Iterator.next_gives c.args.iter (λ items. c.args.first ∷ items) now.yielded c.args.self.now now.self now.invariant
    (c.next.new.self, (now.character-iterator, drained, said g.I.Iterator.next_gives (cc) c.next.ensures.steps))
