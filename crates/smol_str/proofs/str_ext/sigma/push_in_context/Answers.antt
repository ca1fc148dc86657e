use Rattle.smol_str.proofs.Common.{◌-◌, length, on_ok_weaker, on_err_weaker}
use Rattle.smol_str.proofs.CaseLemmas.Ascii.{from_start}
use Rattle.smol_str.proofs.CaseLemmas.Sigma.{sigma-behind, sigma-room, sigma-boundary, sigma-before, lowered-refused, lowered-more, lowered-alone}
use Rattle.smol_str.proofs.str_ext.sigma.push_in_context.Goals as goal

pub overflow_sub-sigma : goal.overflow_sub-sigma
overflow_sub-sigma c =
    let h = rw c.if-character-eq931.true at c.requires in
    sigma-behind _ _ c.utf8.text c.utf8.after h.done h.parts

pub overflow_sub-sigma-then-character-eq931 : goal.overflow_sub-sigma-then-character-eq931
overflow_sub-sigma-then-character-eq931 c =
    let h = rw c.if-character-eq931.true at c.requires in
    sigma-room _ _ c.utf8.text c.utf8.after h.done h.parts

pub range-requires-clause-end_boundary : goal.range-requires-clause-end_boundary
range-requires-clause-end_boundary c =
    let h = rw c.if-character-eq931.true at c.requires in
    sigma-boundary _ _ c.utf8.text c.utf8.after h.done h.parts

pub returns-then-character-eq931-clause-ok : goal.returns-then-character-eq931-clause-ok
returns-then-character-eq931-clause-ok c =
    let h = rw c.if-character-eq931.true at c.requires in
    let before = sigma-before _ _ c.utf8.text c.utf8.after h.done h.parts in
    on_ok_weaker c.push_sigma.result
    (λ e. lowered-more _ _ _ _ h _ e)
    (rw (c.range.ensures.value, from_start c.args.text.now (length c.args.text.now - length c.args.after.now - 2), before) at c.push_sigma.ensures.ok)

pub returns-then-character-eq931-clause-refused : goal.returns-then-character-eq931-clause-refused
returns-then-character-eq931-clause-refused c =
    let h = rw c.if-character-eq931.true at c.requires in
    let before = sigma-before _ _ c.utf8.text c.utf8.after h.done h.parts in
    on_err_weaker c.push_sigma.result
    (λ heap. lowered-refused _ _ _ _ h heap)
    (rw (c.range.ensures.value, from_start c.args.text.now (length c.args.text.now - length c.args.after.now - 2), before) at c.push_sigma.ensures.refused)

pub returns-in-Some-clause-ok : goal.returns-in-Some-clause-ok
returns-in-Some-clause-ok c =
    let alone = lowered-alone _ _ _ _ c.requires c.if-character-eq931.false in
    on_ok_weaker c.push.result
    (λ e. lowered-more _ _ _ _ c.requires _ e)
    (rw (← c.in-Some.ensures, ← alone) at c.push.ensures.ok)

pub returns-in-Some-clause-refused : goal.returns-in-Some-clause-refused
returns-in-Some-clause-refused c =
    let alone = lowered-alone _ _ _ _ c.requires c.if-character-eq931.false in
    on_err_weaker c.push.result
    (λ heap. lowered-refused _ _ _ _ c.requires heap)
    (rw (← c.in-Some.ensures, ← alone) at c.push.ensures.refused)

pub returns-clause-ok : goal.returns-clause-ok
returns-clause-ok c =
    let alone = lowered-alone _ _ _ _ c.requires c.if-character-eq931.false in
    on_ok_weaker c.push_mapped_character.result
    (λ e. lowered-more _ _ _ _ c.requires _ e)
    (rw (← alone) at c.push_mapped_character.ensures.ok)

pub returns-clause-refused : goal.returns-clause-refused
returns-clause-refused c =
    let alone = lowered-alone _ _ _ _ c.requires c.if-character-eq931.false in
    on_err_weaker c.push_mapped_character.result
    (λ heap. lowered-refused _ _ _ _ c.requires heap)
    (rw (← alone) at c.push_mapped_character.ensures.refused)
