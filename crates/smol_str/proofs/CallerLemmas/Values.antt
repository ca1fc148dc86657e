-- Lists of values, as texts.
use Rattle.smol_str.proofs.Common.{Bool, not, map, refl, bytes_eq, place_of, get_or, ◌≡◌, ℕ, ◌<◌, List, [], ◌∷◌, ◌++◌, length, Some, ap, ◌∙◌, arith, length-map, map-append, slice_get, option_map, Meaning, IsTrue, all_scalars, encode_utf8_all, chars, chars-nil, rules}
use Rattle.smol_str.proofs.CallerLemmas.Common.{slice_get-map, slice_get_read, map-map, AreValuesOf, texts, has_text, filter, list_any, All-filter, filter_agree, take-map}
use Rattle.smol_str.specs.Keys.{without, within, values_without, values_within}
use Rattle.smol_str.proofs.CallerLemmas.Texts.{chars-cons}
use Rattle.smol_str.proofs.TextLemmas.Chars.{chars-as_str}

-- one value more
pub texts-push : (values : List Meaning) (v : Meaning) → texts (values ++ v ∷ []) ≡ texts values ++ v.text ∷ []
texts-push values v = map-append (λ (v : Meaning). v.text) values (v ∷ [])

-- what is made of the text of each
pub map-texts : {B : Type 0} (f : List ℕ → B) (vs : List Meaning) → map f (texts vs) ≡ map (λ v. f v.text) vs
map-texts f vs = map-map f (λ (v : Meaning). v.text) vs

-- the name at a place, as a text
pub text_at : (keys : List Meaning) (id : ℕ) (name : Meaning) → slice_get keys id ≡ Some name →
    slice_get (texts keys) id ≡ Some name.text
text_at keys id name found =
    slice_get-map (λ (key : Meaning). key.text) keys id ∙ ap (option_map (λ (key : Meaning). key.text)) found

-- what a value of a list lends, where the list is seen as texts
pub text_lent : (ts : List (List ℕ)) (vs : List Meaning) (i : ℕ) (v : Meaning) (bs : List ℕ) → texts vs ≡ ts → i < length ts
    → v ≡ get_or vs i v → bs ≡ encode_utf8_all v.text → IsTrue (all_scalars v.text) → slice_get ts i ≡ Some (chars bs)
text_lent ts vs i v bs are within at lent scalars =
    let there : i < length vs = omega (arith, within, ap length are, length-map vs (λ (v : Meaning). v.text)) in
    rw (← are, chars-as_str v.text bs scalars lent) (text_at vs i v (slice_get_read vs (length vs) i v refl there at))

pub ruleset listed = (text_lent)

-- a list as a stack: the last value, one more and one less
pub ruleset stacked = (slice_get-map, take-map, length-map, texts-push, chars-as_str, chars-cons, chars-nil)

-- ---- values that are among others, or are not

map-filter : {A B : Type 0} (f : A → B) (p : B → Bool) (xs : List A) → map f (filter (λ x. p (f x)) xs) ≡ filter p (map f xs)
map-filter f p [] = refl
map-filter f p (x ∷ xs) = search (rules, map-filter f p xs)

pub list_any-map : {A B : Type 0} (f : A → B) (p : B → Bool) (xs : List A) → list_any (λ x. p (f x)) xs ≡ list_any p (map f xs)
list_any-map f p [] = refl
list_any-map f p (x ∷ xs) = rw (list_any-map f p xs)

AreValuesOf-filter : (p : List ℕ → Bool) (ts : List (List ℕ)) (vs : List Meaning) → AreValuesOf ts vs
    → AreValuesOf (filter p ts) (filter (λ v. p v.text) vs)
AreValuesOf-filter p ts vs are = record {
  text = map-filter (λ (v : Meaning). v.text) p vs ∙ ap (filter p) are.text;
  place = All-filter (λ (v : Meaning). p v.text) (λ v. v.place ≡ place_of v.text) vs are.place;
}

module _ (ts us : List (List ℕ)) (vs ws : List Meaning) (are : AreValuesOf ts vs) (others : AreValuesOf us ws) where
  has_text-among : (t : List ℕ) → has_text t ws ≡ list_any (λ u. bytes_eq u t) us
  has_text-among t = list_any-map (λ (v : Meaning). v.text) (λ u. bytes_eq u t) ws ∙ ap (list_any (λ u. bytes_eq u t)) others.text

  pub are_without : AreValuesOf (without ts us) (values_without vs ws)
  unfolding without values_without
  are_without =
      rw (← filter_agree _ _ (λ t. ap not (has_text-among t)) ts) (AreValuesOf-filter (λ t. not (has_text t ws)) ts vs are)

  pub are_within : AreValuesOf (within ts us) (values_within vs ws)
  unfolding within values_within
  are_within = rw (← filter_agree _ _ has_text-among ts) (AreValuesOf-filter (λ t. has_text t ws) ts vs are)

pub ruleset among = (are_without, are_within)
