use Rattle.smol_str.proofs.Common.{◌+◌, ◌-◌, [], ◌∷◌, None, Some, chars, arith, refl, rules}
use Rattle.smol_str.proofs.TextLemmas.Results.{OnErr-always}
use Rattle.smol_str.proofs.CutLemmas.Replacing.{replacing-boundary, next-char, before-refused, appended-both, second-heap, taken-inside, taken-step, taken-refused, taken-end}
use Rattle.smol_str.proofs.str_ext.replace.push_between.Goals as goal

pub returns-in_err-push_str-clause-refused : goal.returns-in_err-push_str-clause-refused
returns-in_err-push_str-clause-refused c =
    let h = c.loop-passed.invariant in
    OnErr-always c.from_residual.result _
    (before-refused _ _ _ _ (c.args.count - (c.loop-passed.passed + 1)) _ _ h
    (omega arith) h.rest refl c.in_err-push_str.ensures.refused)

pub range_from-requires : goal.range_from-requires
range_from-requires c = λ _. replacing-boundary _ _ _ _ _ _ _ c.loop-passed.invariant c.utf8.text

pub returns-in_default-clause-ok : goal.returns-in_default-clause-ok
returns-in_default-clause-ok c =
    let h = c.loop-passed.invariant in
    let none = next-char _ _ _ _ _ _ _ h c.utf8.text c.chars.result.rest.now None (search rules) c.in_default.ensures.steps.2 in
    taken-end _ _ _ _ (c.args.count - (c.loop-passed.passed + 1)) _ _ h (omega arith) none
    _ c.in_ok-push_str.ensures.ok

pub returns-in_err-push-clause-refused : goal.returns-in_err-push-clause-refused
returns-in_err-push-clause-refused c =
    let h = c.loop-passed.invariant in
    let character = c.in-Some.character in
    let next = next-char _ _ _ _ _ _ _ h c.utf8.text c.chars.result.rest.now (Some character) (search rules) c.in-Some.ensures.steps.2 in
    OnErr-always c.from_residual-in_err-push.result _
    (taken-refused _ _ _ _ (c.args.count - (c.loop-passed.passed + 1)) _ _ h (omega arith)
    character next.0 next.1
    (second-heap c.loop-passed.builder c.push_str.new.self (chars c.args.to.now) (character ∷ [])
    c.in_ok-push_str.ensures.ok c.in_err-push.ensures.refused))

pub overflow_add-index : goal.overflow_add-index
overflow_add-index c = search (rules, next-char, taken-inside)

pub loop-passed-preserved : goal.loop-passed-preserved
loop-passed-preserved c =
    let h = c.loop-passed.invariant in
    let character = c.in-Some.character in
    let next = next-char _ _ _ _ _ _ _ h c.utf8.text c.chars.result.rest.now (Some character) (search rules) c.in-Some.ensures.steps.2 in
    let more = taken-step _ _ _ _ (c.args.count - (c.loop-passed.passed + 1)) _ _ h
    (omega arith) character next.0 next.1 _
    (appended-both c.loop-passed.builder c.push_str.new.self c.push.new.self (chars c.args.to.now) (character ∷ [])
    c.in_ok-push_str.ensures.ok c.in_ok-push.ensures.ok) in
    rw c.len_utf8-index.ensures.value more
