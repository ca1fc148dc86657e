use Rattle.smol_str.proofs.Common.{ap, sym, ◌∙◌, refl, on_ok_weaker, on_err_weaker}
use Rattle.smol_str.proofs.CaseLemmas.Full.{sigma}
use Rattle.smol_str.proofs.CaseLemmas.Sigma.{lowering-boundary, lowering-last}
use Rattle.smol_str.proofs.str_ext.sigma.push_lowercase_by_segment.Goals as goal

pub next_match-requires-clause-boundary : goal.next_match-requires-clause-boundary
next_match-requires-clause-boundary c = λ _. lowering-boundary _ c.utf8.text _ _ c.loop-sigma.invariant

pub push_segment-requires-clause-next : goal.push_segment-requires-clause-next
push_segment-requires-clause-next c =
    λ a b parts at. (rw sigma at (c.next_match.ensures.found a b parts at c.in-Some.sigma)).0 c.in-Some.is

pub range_from-requires : goal.range_from-requires
range_from-requires c = λ _. lowering-boundary _ c.utf8.text _ _ c.loop-sigma.invariant

pub returns-clause-ok : goal.returns-clause-ok
returns-clause-ok c =
    let h = c.loop-sigma.invariant in
    let none = (rw sigma at (c.in_default.ensures.none h.front.done h.rest h.front.parts h.at)).0 refl in
    let all = lowering-last _ c.utf8.text _ _ h none in
    on_ok_weaker c.push_mapped.result (λ e. e ∙ all) (rw (c.range_from.ensures.value) at c.push_mapped.ensures.ok)

pub returns-clause-refused : goal.returns-clause-refused
returns-clause-refused c =
    let h = c.loop-sigma.invariant in
    let none = (rw sigma at (c.in_default.ensures.none h.front.done h.rest h.front.parts h.at)).0 refl in
    let all = lowering-last _ c.utf8.text _ _ h none in
    on_err_weaker c.push_mapped.result (λ heap. ap (λ b. b.kind) (sym all) ∙ heap) (rw (c.range_from.ensures.value) at c.push_mapped.ensures.refused)
