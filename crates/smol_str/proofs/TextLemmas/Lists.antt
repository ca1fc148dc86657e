-- For the lemmas of texts, cuts and builders: lists of any kind.
use Rattle.smol_str.proofs.Common.{◌≡◌, ℕ, List, ◌∷◌, ◌++◌, take, drop, flat_map, take-append-drop, ◌-◌, length, ap, arith, Occurs, but_last}
use Rattle.std.proofs.lemmas.List.Concat.{flat_map-append}

pub head_same : (c d : ℕ) (s t : List ℕ) → c ∷ s ≡ d ∷ t → c ≡ d
head_same c d s t e = cc

pub tail_same : (c d : ℕ) (s t : List ℕ) → c ∷ s ≡ d ∷ t → s ≡ t
tail_same c d s t e = cc

module _ {X : Type 0} (f : X → List ℕ) (xs : List X) (i : ℕ) where
  -- the pieces of the first i items, and all the others
  pub flat_map-parts : flat_map f xs ≡ flat_map f (take i xs) ++ flat_map f (drop i xs)
  flat_map-parts = cc (take-append-drop i xs, flat_map-append f (take i xs) (drop i xs))

-- what does not occur in a text does not occur in its tail
pub not_later : (p : List ℕ) (c : ℕ) (t : List ℕ) → ¬ Occurs p (c ∷ t) → ¬ Occurs p t
not_later p c t none o = none (c ∷ o.0, o.1, ap (λ xs. c ∷ xs) o.2)

pub length_but_last : {X : Type 0} (p : List X) → length (but_last p) ≡ length p - 1
length_but_last (x ∷ y ∷ rest) = omega (arith, length_but_last (y ∷ rest))
length_but_last p = omega arith
