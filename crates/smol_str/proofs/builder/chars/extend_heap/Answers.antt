use Rattle.std.proofs.iter.Next.{said}
use Rattle.smol_str.specs.BuilderArms.{heap_builder}
use Rattle.smol_str.proofs.BuilderLemmas.Collect.{all-appended, stopped-at, pushed-next}
use Rattle.smol_str.proofs.Common.{rules}
use Rattle.smol_str.proofs.TextLemmas.Results.{OnErr-always}
use Rattle.smol_str.proofs.TextLemmas.Chars.{chars-pushed}
use Rattle.smol_str.proofs.builder.chars.extend_heap.Goals as goal

pub loop-character-preserved : goal.loop-character-preserved
loop-character-preserved g c =
    let now = c.loop-character in
    let x = c.in-Some.character in
    let pushed = chars-pushed now.heap c.push.new.self x (search rules) in
    pushed-next c.args.heap.now now.heap c.push.new.self now.yielded x now.invariant pushed

pub returns-in_err-push-clause-stopped : goal.returns-in_err-push-clause-stopped
returns-in_err-push-clause-stopped g c =
    let now = c.loop-character in
    let x = c.in-Some.character in
    let yielded = rw c.into_iter-character-iterator.ensures.into_iter_gives at now.yielded_by in
    let stopped = stopped-at g.I.Iterator.next_gives c.args.iter (λ items. items) now.yielded (heap_builder c.args.heap.now) (heap_builder c.push.new.self)
    (search rules) x c.next.new.self (now.character-iterator, yielded, c.in-Some.ensures.steps) (search rules) in
    OnErr-always c.from_residual.result _ stopped

pub returns-clause-ok : goal.returns-clause-ok
returns-clause-ok g c =
    let now = c.loop-character in
    let drained = rw c.into_iter-character-iterator.ensures.into_iter_gives at now.yielded_by in
    all-appended g.I.Iterator.next_gives c.args.iter (λ items. items) now.yielded _ _ now.invariant
    (c.next.new.self, (now.character-iterator, drained, said g.I.Iterator.next_gives (cc) c.next.ensures.steps))
