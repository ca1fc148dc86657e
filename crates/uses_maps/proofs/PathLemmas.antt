-- For paths: the front that two have in common is the whole of one.
use Rattle.std.proofs.Common.{◌≡◌, ◌↔◌, ℕ, ◌<◌, ◌≤◌, List, [], length, take, take_all, Some, slice_get, get_or, ⊎_elim, ap, sym, ◌∙◌, arith, length-take}
use Rattle.std.proofs.lemmas.Bool.{cases_lt}
use Rattle.std.proofs.lemmas.List.{get_or-take}
use Rattle.std.proofs.lemmas.Option.{slice_get-get_or}

pub whole_front : (ts us : List (List ℕ)) (r : ℕ) → r ≤ length us → take r ts ≡ take r us
    → (r < length ts → r < length us → ¬ (slice_get ts r ≡ slice_get us r)) → (r ≡ length us) ↔ (take (length us) ts ≡ us)
whole_front ts us r within same ends = (
  λ all. ap (λ n. take n ts) (sym all) ∙ same ∙ take_all r us (omega (arith, all)),
  λ begins. ⊎_elim
      (λ (below : r < length us).
      let long : r < length ts = omega (arith, ap length begins, length-take (length us) ts, below) in
      let at = ap Some (sym (get_or-take (length us) ts r [] below) ∙ ap (λ l. get_or l r []) begins) in
      absurd (ends long below (slice_get-get_or ts r [] long ∙ at ∙ sym (slice_get-get_or us r [] below))))
      (λ above. omega (arith, within, above)) (cases_lt r (length us)),
)
