use Rattle.std.proofs.Common.{ap, refl}
use Rattle.smol_str.proofs.CallerLemmas.{chars-as_str}
use Rattle.smol_tokens_core.proofs.TallyTableLemmas.{by_sum, looked_up, added-there, added-missing}
use Rattle.smol_tokens_core.proofs.tally.Tally.add.Goals as goal

pub invariant_of-self : goal.invariant_of-self
invariant_of-self g c =
    (added-there _ _ _ _ c.as_str.utf8 (chars-as_str _ _ c.as_str.ensures.scalars c.as_str.ensures.bytes)
    c.self.view_is c.self.invariant _ _ _ _ _ c.in-Some.ensures.value
    c.add_in_place.ensures (c.get_mut.follows.holds c.add_in_place.new.count).0).0

pub returns-in-Some : goal.returns-in-Some
returns-in-Some g c =
    by_sum _ _ c.add_in_place.result
    (added-there _ _ _ _ c.as_str.utf8 (chars-as_str _ _ c.as_str.ensures.scalars c.as_str.ensures.bytes)
    c.self.view_is c.self.invariant _ _ _ _ _ c.in-Some.ensures.value
    c.add_in_place.ensures (c.get_mut.follows.holds c.add_in_place.new.count).0).1
    (λ more is made. rw (c.ok_or.ensures.value, is)
    (record { ok = made.0; count = made.1; fits = made.2; fault = tt; back = tt; unchanged = tt }))
    (λ is made. rw (c.ok_or.ensures.value, is)
    (record { ok = tt; count = tt; fits = tt; fault = made.1; back = refl; unchanged = made.0 }))

pub invariant_of-self-in-None : goal.invariant_of-self-in-None
invariant_of-self-in-None g c =
    (added-missing _ _ _ _ c.as_str.utf8 (chars-as_str _ _ c.as_str.ensures.scalars c.as_str.ensures.bytes)
    c.self.view_is c.self.invariant _ _ _ _ c.in-None.ensures.value
    (ap (λ m. m.entries) c.get_mut.follows.holds-at-none) refl c.ranges.times.fits
    c.in_default.ensures.entries).0

pub returns-in_default : goal.returns-in_default
returns-in_default g c =
    let made = added-missing _ _ _ _ c.as_str.utf8 (chars-as_str _ _ c.as_str.ensures.scalars c.as_str.ensures.bytes)
    c.self.view_is c.self.invariant _ _ _ _ c.in-None.ensures.value
    (ap (λ m. m.entries) c.get_mut.follows.holds-at-none) refl c.ranges.times.fits
    c.in_default.ensures.entries in
    record { ok = made.1; count = made.2; fits = made.3; fault = tt; back = tt; unchanged = tt }

pub returns-in-Err-clause-fault : goal.returns-in-Err-clause-fault
returns-in-Err-clause-fault g c =
    (looked_up _ _ _ _ c.as_str.utf8 (chars-as_str _ _ c.as_str.ensures.scalars c.as_str.ensures.bytes)
    c.self.view_is c.self.invariant _ c.in-None.ensures.value).0
