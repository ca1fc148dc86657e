-- The tally of a small list of pairs, computed by the checker.
use Rattle.std.specs.Prelude.{◌≡◌, [], ◌∷◌, codes, refl}
use Rattle.smol_tokens_core.specs.Tally.{tally}

-- the times are added up, and the first sight decides the order
added_up : tally ((codes "a", 2) ∷ (codes "b", 1) ∷ (codes "a", 3) ∷ []) ≡ (codes "a", 5) ∷ (codes "b", 1) ∷ []
added_up = refl
