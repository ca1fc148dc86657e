use Rattle.smol_str.proofs.Common.{◌+◌, ◌-◌, chars, arith, common_steps, refl}
use Rattle.smol_str.proofs.TextLemmas.Results.{OnErr-always}
use Rattle.smol_str.proofs.BuilderLemmas.Push.{appended-heap}
use Rattle.smol_str.proofs.CutLemmas.Match.{sound-utf8, sound-some}
use Rattle.smol_str.proofs.CutLemmas.Replacing.{replacing-start, replacing-boundary, replacing-inside, replacing-found, replacing-none, appended-both, second-heap, match-boundary, match-end, match-piece, match-step, match-refused}
use Rattle.smol_str.proofs.str_ext.replace.push_matches.Goals as goal

pub loop-taken-init : goal.loop-taken-init
loop-taken-init c = replacing-start _ _ _ _ _ _ c.requires.empty (omega arith)

pub bytes_from-requires : goal.bytes_from-requires
bytes_from-requires c = replacing-inside _ _ _ _ _ _ _ c.loop-taken.invariant c.utf8.text

pub returns-in_default-clause-ok : goal.returns-in_default-clause-ok
returns-in_default-clause-ok c =
    replacing-none _ _ _ _ _ _ _ _ _ c.loop-taken.invariant c.utf8.text (sound-utf8 _ c.requires.sound) c.bytes_from.ensures
    refl c.in_default.ensures

pub overflow_add-found : goal.overflow_add-found
overflow_add-found c = grind (arith, common_steps, replacing-found, match-end)

pub range-requires-clause-start_boundary : goal.range-requires-clause-start_boundary
range-requires-clause-start_boundary c = λ _. replacing-boundary _ _ _ _ _ _ _ c.loop-taken.invariant c.utf8.text

pub range-requires-clause-end_boundary : goal.range-requires-clause-end_boundary
range-requires-clause-end_boundary c =
    let h = c.loop-taken.invariant in
    let k = replacing-found _ _ _ _ _ _ _ _ _ _ h c.utf8.text (sound-utf8 _ c.requires.sound) (sound-some _ c.requires.sound) c.bytes_from.ensures
    refl c.in-Some.ensures in
    match-boundary _ _ _ _ _ _ _ _ h k c.utf8.text

pub returns-in_err-push_str_heap_first-clause-refused : goal.returns-in_err-push_str_heap_first-clause-refused
returns-in_err-push_str_heap_first-clause-refused c =
    let h = c.loop-taken.invariant in
    let k = replacing-found _ _ _ _ _ _ _ _ _ _ h c.utf8.text (sound-utf8 _ c.requires.sound) (sound-some _ c.requires.sound) c.bytes_from.ensures
    refl c.in-Some.ensures in
    let heap = rw (c.range.ensures.value, match-piece _ _ _ _ _ _ _ _ h k c.utf8.text) at c.in_err-push_str_heap_first.ensures.refused in
    OnErr-always c.from_residual.result _
    (match-refused _ _ _ _ _ _ _ _ h k (c.args.count - (c.loop-taken.taken + 1)) (omega arith)
    (appended-heap c.loop-taken.builder k.before (chars c.args.to.now) heap))

pub returns-in_err-push_str_heap_first-2-clause-refused : goal.returns-in_err-push_str_heap_first-2-clause-refused
returns-in_err-push_str_heap_first-2-clause-refused c =
    let h = c.loop-taken.invariant in
    let k = replacing-found _ _ _ _ _ _ _ _ _ _ h c.utf8.text (sound-utf8 _ c.requires.sound) (sound-some _ c.requires.sound) c.bytes_from.ensures
    refl c.in-Some.ensures in
    let first = rw (c.range.ensures.value, match-piece _ _ _ _ _ _ _ _ h k c.utf8.text) at c.in_ok-push_str_heap_first.ensures.ok in
    OnErr-always c.from_residual-in_err-push_str_heap_first-2.result _
    (match-refused _ _ _ _ _ _ _ _ h k (c.args.count - (c.loop-taken.taken + 1)) (omega arith)
    (second-heap c.loop-taken.builder c.push_str_heap_first.new.self k.before (chars c.args.to.now) first
    c.in_err-push_str_heap_first-2.ensures.refused))

pub overflow_add-index : goal.overflow_add-index
overflow_add-index c = grind (arith, common_steps, replacing-found, match-end)

pub loop-taken-preserved : goal.loop-taken-preserved
loop-taken-preserved c =
    let h = c.loop-taken.invariant in
    let k = replacing-found _ _ _ _ _ _ _ _ _ _ h c.utf8.text (sound-utf8 _ c.requires.sound) (sound-some _ c.requires.sound) c.bytes_from.ensures
    refl c.in-Some.ensures in
    let first = rw (c.range.ensures.value, match-piece _ _ _ _ _ _ _ _ h k c.utf8.text) at c.in_ok-push_str_heap_first.ensures.ok in
    rw c.len.ensures
    (match-step _ _ _ _ _ _ _ _ h k (c.args.count - (c.loop-taken.taken + 1)) (omega arith)
    (sound-utf8 _ c.requires.sound) _ (appended-both _ _ _ _ _ first c.in_ok-push_str_heap_first-2.ensures.ok))
