use Rattle.smol_str.proofs.Common.{◌≡◌, ◌-◌, ◌+◌, ⊎_elim, cases_lt, subst, arith}
use Rattle.memchr.specs.Find.{OccursAt}
use Rattle.smol_str.proofs.CutLemmas.Near.{two-stand}
use Rattle.smol_str.proofs.bytes.search.find_two_by_one.Goals.{else-bytes-at-via-then-bytes-at+else-bytes-at-2, else-bytes-at-via-else-bytes-at}
use Rattle.smol_str.proofs.bytes.search.find_two_by_one.Goals as goal

pub loop-at-preserved : goal.loop-at-preserved
loop-at-preserved c =
    let hay = c.args.bytes.now in
    let nd = c.args.needle.now in
    let at = c.loop-at.at in
    let some = c.loop-at.invariant.0 in
    let here : (at - 1) + 1 ≡ at = omega (arith, some) in
    let not_here : ¬ OccursAt hay nd (at - 1) = λ o.
    let reads = two-stand hay nd c.requires (at - 1) o in
    elim c.else-bytes-at.branch [
      | else-bytes-at-via-then-bytes-at+else-bytes-at-2 w ↦ w.if-bytes-at-2.false (rw here at reads.1)
      | else-bytes-at-via-else-bytes-at w ↦ w.if-bytes-at.false reads.0
    ] in (
      omega arith,
      λ k low high. ⊎_elim (λ below. c.loop-at.invariant.1 k low below)
          (λ from. let e : at - 1 ≡ k = omega (arith, some, high, from) in subst (λ m. ¬ OccursAt hay nd m) e not_here) (cases_lt k (at - 1)),
    )

pub returns : goal.returns
returns c = λ k low high o. c.loop-at.invariant.1 k low (omega (arith, o.fits, c.loop-at-test.false, c.requires)) o
