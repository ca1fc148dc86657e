use Rattle.std.proofs.Common.{ap, refl}
use Rattle.smol_tokens_core.proofs.TallyTableLemmas.{by_sum, added-there, added-missing}
use Rattle.smol_tokens_core.proofs.tally.Tally.add_text.Goals as goal

pub invariant_of-self : goal.invariant_of-self
invariant_of-self g c =
    (added-there _ _ _ _ c.utf8.text refl c.self.view_is c.self.invariant _ _ _ _ _ c.in-Some.ensures.value
    c.add_in_place.ensures (c.get_mut.follows.holds c.add_in_place.new.count).0).0

pub returns-in-Some : goal.returns-in-Some
returns-in-Some g c =
    by_sum _ _ c.add_in_place.result
    (added-there _ _ _ _ c.utf8.text refl c.self.view_is c.self.invariant _ _ _ _ _ c.in-Some.ensures.value
    c.add_in_place.ensures (c.get_mut.follows.holds c.add_in_place.new.count).0).1
    (λ more is made. rw (c.is_some.ensures, is) (made.0, made.2))
    (λ is made. rw (c.is_some.ensures, is) made.1)

pub invariant_of-self-in-None : goal.invariant_of-self-in-None
invariant_of-self-in-None g c =
    (added-missing _ _ _ _ c.utf8.text refl c.self.view_is c.self.invariant _ _ _ _ c.in-None.ensures.value
    (ap (λ m. m.entries) c.get_mut.follows.holds-at-none) c.in_ok-new-in-None.ensures.ok.text c.ranges.times.fits
    c.in_ok-insert-in-None.ensures.entries).0

pub returns-in_ok-insert-in-None : goal.returns-in_ok-insert-in-None
returns-in_ok-insert-in-None g c =
    let made = added-missing _ _ _ _ c.utf8.text refl c.self.view_is c.self.invariant _ _ _ _ c.in-None.ensures.value
    (ap (λ m. m.entries) c.get_mut.follows.holds-at-none) c.in_ok-new-in-None.ensures.ok.text c.ranges.times.fits
    c.in_ok-insert-in-None.ensures.entries in
    (made.1, made.3)
