use Rattle.std.proofs.Common.{arith, rules, refl, inr, []}
use Rattle.std.specs.Str.{chars}
use Rattle.std.proofs.lemmas.Bool.{MatchBool-at_true, MatchBool-at_false}
use Rattle.smol_str.proofs.TextLemmas.Sizes.{some_char}
use Rattle.smol_tokens_core.proofs.SumLemmas.{summed-more, summed-on, summed-all}
use Rattle.smol_tokens_core.proofs.merge.add_counts.Goals as goal
use Rattle.smol_tokens_core.proofs.merge.add_counts.Goals.{then-fits+in_ok-fits, else-fits}

pub loop-count-preserved : goal.loop-count-preserved
loop-count-preserved g c =
    let so_far = c.loop-count.invariant.2 in (
      search rules,
      omega (arith, c.in-Some.ensures.shorter, c.loop-count.invariant.1),
      elim c.if-fits.branch [
        | then-fits+in_ok-fits w ↦
            rw (w.tally-is, w.fits-is)
            (summed-more _ _ _ _ _ _ c.in-Some.ensures.cut _ _ _ (rw w.if-fits.true at so_far) w.in_ok-fits.ensures)
        | else-fits w ↦
            rw (w.tally-is, w.fits-is, w.if-fits.false)
            (summed-on _ _ _ _ _ _ c.in-Some.ensures.cut [] (rw w.if-fits.false at so_far))
      ],
    )

pub returns-then-not-is_empty-clause-fault : goal.returns-then-not-is_empty-clause-fault
returns-then-not-is_empty-clause-fault g c =
    let so_far = c.loop-count.invariant.2 in
    let some = some_char c.loop-count.rest.now c.loop-count.invariant.0 (search (rules, arith)) in
    (refl, (so_far.0, chars c.loop-count.rest.now, so_far.1, omega (arith, so_far.2), some, c.in_default.ensures.cut))

pub returns-then-not-fits-clause-fault : goal.returns-then-not-fits-clause-fault
returns-then-not-fits-clause-fault g c =
    let all = summed-all _ c.loop-count.rest.now _ _ _ c.loop-count.invariant.2 (search (rules, arith)) in
    inr (refl, MatchBool-at_false _ _ c.if-not-fits.true all)

pub returns : goal.returns
returns g c =
    let all = summed-all _ c.loop-count.rest.now _ _ _ c.loop-count.invariant.2 (search (rules, arith)) in
    let read = MatchBool-at_true _ _ c.if-not-fits.false all in record { ok = read.0; some = read.1; fault = tt }
