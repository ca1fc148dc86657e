-- For parsers: which characters a token has.
use Rattle.std.proofs.Common.{◌≡◌, ◌≢◌, ℕ, Bool, true, false, ◌&&◌, if◌then◌else◌, List, [], ◌∷◌, refl, ap, subst}
use Rattle.std.specs.List.{All}
use Rattle.std.proofs.lemmas.Bool.{both_ways}
use Rattle.std.proofs.lemmas.List.Elements.{All-cons, All-head, All-nil, All-tail}
use Rattle.lexer.specs.Tokens.{IsToken, goes_on, is_word_character, is_blank}

-- of a character that is neither in a word nor blank: it goes on no token, and none goes on it
module _ (x : ℕ) (single : goes_on x x ≡ false) where
  not_after : (c : ℕ) → goes_on c x ≡ false
  not_after c = by (is_word_character c) (is_blank c) (is_word_character x) (is_blank x) single where
    by : (w b w' b' : Bool) → (if w' then w' else (b' && b')) ≡ false → (if w then w' else (b && b')) ≡ false
    by true b false b' e = refl
    by true b true b' e = e
    by false b true b' e = absurd (both_ways _ e refl)
    by false true false true e = e
    by false true false false e = refl
    by false false false b' e = refl

  not_before : (d : ℕ) → goes_on x d ≡ false
  not_before d = by (is_word_character d) (is_blank d) (is_word_character x) (is_blank x) single where
    by : (w b w' b' : Bool) → (if w' then w' else (b' && b')) ≡ false → (if w' then w else (b' && b)) ≡ false
    by w b true b' e = absurd (both_ways _ e refl)
    by w b false true e = absurd (both_ways _ e refl)
    by w b false false e = refl

  not_among : (c : ℕ) (t : List ℕ) → All (λ d. goes_on c d ≡ true) t → All (λ d. d ≢ x) t
  not_among c [] run = All-nil (λ d. d ≢ x)
  not_among c (d ∷ t) run =
      let on = All-head (λ d. goes_on c d ≡ true) d t run in
      let rest = All-tail (λ d. goes_on c d ≡ true) d t run in
      All-cons (λ d. d ≢ x) d t (λ e. both_ways _ (not_after c) (subst (λ y. goes_on c y ≡ true) e on)) (not_among c t rest)

  not_first : (c : ℕ) (t : List ℕ) → IsToken (c ∷ t) → ¬ (c ∷ t ≡ x ∷ []) → c ≢ x
  not_first c [] token other e = other (ap (λ y. y ∷ []) e)
  not_first c (d ∷ t) token other e =
      both_ways _ (not_before d) (subst (λ y. goes_on y d ≡ true) e (All-head (λ d. goes_on c d ≡ true) d t token))

  -- so a token that is not this character has none of it
  pub lacks : (t : List ℕ) → IsToken t → ¬ (t ≡ x ∷ []) → All (λ d. d ≢ x) t
  lacks [] token other = All-nil (λ d. d ≢ x)
  lacks (c ∷ t) token other = All-cons (λ d. d ≢ x) c t (not_first c t token other) (not_among c t token)
