use Rattle.smol_str.proofs.Common.{on_ok_weaker, on_err_weaker}
use Rattle.smol_str.proofs.TextLemmas.Results.{OnErr-always}
use Rattle.smol_str.proofs.CaseLemmas.Ascii.{from_start}
use Rattle.smol_str.proofs.CaseLemmas.Sigma.{lowering-boundary, segment-start, segment-boundaries, segment-first, segment-refused, segment-more}
use Rattle.smol_str.proofs.str_ext.sigma.push_segment.Goals as goal

pub range-requires-clause-start_le_end : goal.range-requires-clause-start_le_end
range-requires-clause-start_le_end c =
    let h = c.requires.so_far in
    segment-start _ c.utf8.text _ _ h c.args.sigma (c.requires.next h.front.done h.rest h.front.parts h.at)

pub range-requires-clause-start_boundary : goal.range-requires-clause-start_boundary
range-requires-clause-start_boundary c = λ _. lowering-boundary _ c.utf8.text _ _ c.requires.so_far

pub range-requires-clause-end_boundary : goal.range-requires-clause-end_boundary
range-requires-clause-end_boundary c =
    let h = c.requires.so_far in
    (segment-boundaries _ c.utf8.text _ _ h c.args.sigma (c.requires.next h.front.done h.rest h.front.parts h.at)).0

pub returns-in_err-push_mapped-clause-refused : goal.returns-in_err-push_mapped-clause-refused
returns-in_err-push_mapped-clause-refused c =
    let h = c.requires.so_far in
    let next = c.requires.next h.front.done h.rest h.front.parts h.at in
    OnErr-always c.from_residual.result _
    (segment-first _ c.utf8.text _ _ h c.args.sigma next (rw (c.range.ensures.value) at c.in_err-push_mapped.ensures.refused))

pub range-requires-2-clause-end_boundary : goal.range-requires-2-clause-end_boundary
range-requires-2-clause-end_boundary c =
    let h = c.requires.so_far in
    (segment-boundaries _ c.utf8.text _ _ h c.args.sigma (c.requires.next h.front.done h.rest h.front.parts h.at)).0

pub range_from-requires : goal.range_from-requires
range_from-requires c =
    let h = c.requires.so_far in
    λ _. (segment-boundaries _ c.utf8.text _ _ h c.args.sigma (c.requires.next h.front.done h.rest h.front.parts h.at)).1

pub returns-clause-ok : goal.returns-clause-ok
returns-clause-ok c =
    let h = c.requires.so_far in
    let next = c.requires.next h.front.done h.rest h.front.parts h.at in
    let put = rw (c.range.ensures.value) at c.in_ok-push_mapped.ensures.ok in
    on_ok_weaker c.push_sigma.result
    (λ e. segment-more _ c.utf8.text _ _ h c.args.sigma next _ put _ e)
    (rw (c.range-2.ensures.value, from_start c.args.text.now c.args.sigma, c.range_from.ensures.value) at c.push_sigma.ensures.ok)

pub returns-clause-refused : goal.returns-clause-refused
returns-clause-refused c =
    let h = c.requires.so_far in
    let next = c.requires.next h.front.done h.rest h.front.parts h.at in
    let put = rw (c.range.ensures.value) at c.in_ok-push_mapped.ensures.ok in
    on_err_weaker c.push_sigma.result
    (λ heap. segment-refused _ c.utf8.text _ _ h c.args.sigma next _ put heap)
    (rw (c.range-2.ensures.value, from_start c.args.text.now c.args.sigma, c.range_from.ensures.value) at c.push_sigma.ensures.refused)
