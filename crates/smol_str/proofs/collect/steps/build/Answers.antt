use Rattle.smol_str.proofs.Common.{◌≡◌, ℕ, List, joined, YieldsList-from_slice, BuilderState, empty_builder, kind_for, inl, inr, sym, ap}
use Rattle.std.specs.Slice.Iter.{iter_rest, iter_steps}
use Rattle.std.specs.declared.slice.Iter.{Iter}
use Rattle.std.proofs.lemmas.List.Folds.{flat_map-map}
use Rattle.smol_str.specs.Collect.{AppendedAll}
use Rattle.smol_str.specs.Steps.{step_text, step_ref_text}
use Rattle.smol_str.specs.declared.collect.steps.Step.{Step}
use Rattle.smol_str.proofs.TextLemmas.Lists.{flat_map-parts}
use Rattle.smol_str.proofs.TextLemmas.Results.{OnErr-always}
use Rattle.smol_str.proofs.BuilderLemmas.State.{why_heap}
use Rattle.smol_str.proofs.BuilderLemmas.Collect.{Reads, heap-stopped, text-appended}
use Rattle.smol_str.proofs.collect.steps.build.Goals as goal

lent_steps : Reads (joined step_ref_text) (joined step_text) (λ x. x.now)
lent_steps = record { is = λ xs. sym (flat_map-map step_text (λ x. x.now) xs); parts = flat_map-parts step_text }

-- a builder that took all steps has their text
text_built : (s : Iter Step) (all : List Step) (n : ℕ) (new : BuilderState) → iter_rest s ≡ all
    → AppendedAll (joined step_ref_text) iter_steps s (empty_builder (kind_for n)) new → new.text ≡ joined step_text all
text_built s all n new is took =
    ap (λ d. d.text) (text-appended lent_steps _ new took (YieldsList-from_slice all is))

pub returns-in_err-append_all-clause-refused : goal.returns-in_err-append_all-clause-refused
returns-in_err-append_all-clause-refused c =
    let stopped = rw c.in_ok-builder.ensures.ok at c.in_err-append_all.ensures.stopped in
    let heap = heap-stopped lent_steps _ _ stopped (YieldsList-from_slice _ c.iter.ensures.rest) in
    OnErr-always c.from_residual-in_err-append_all.result _ (why_heap _ _ heap)

pub returns-in_err-finish-clause-refused : goal.returns-in_err-finish-clause-refused
returns-in_err-finish-clause-refused c =
    let text = text_built _ _ _ _ c.iter.ensures.rest (rw c.in_ok-builder.ensures.ok at c.in_ok-append_all.ensures.ok) in
    let away = rw text at c.in_err-finish.ensures.refused in
    OnErr-always c.from_residual-in_err-finish.result _ (inr (λ short. away (inl short)))

pub returns-clause-ok : goal.returns-clause-ok
returns-clause-ok c =
    let text = text_built _ _ _ _ c.iter.ensures.rest (rw c.in_ok-builder.ensures.ok at c.in_ok-append_all.ensures.ok) in
    rw text at c.in_ok-finish.ensures.ok
