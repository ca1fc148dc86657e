-- An interner: a list of names, and a map that has the id of each.
use Rattle.smol_str.proofs.Common.{true, false, get_or, refl, sym, ◌≡◌, ℕ, List, [], ◌∷◌, ◌++◌, length, Bool, not, cond, Some, None, ap, ◌∙◌, arith, nat_tests, length-append, length-map, slice_get, Meaning, false≢true, false_from_ne_true, subst}
use Rattle.smol_str.proofs.CallerLemmas.Common.{is_some, position, bytes_eq, common_steps, bytes_eq-Decides, prefix_len-le-length, slice_get-get_or, lookup, KeepsOthers, same_key, interned, prefix_len-append}
use Rattle.std.proofs.lemmas.List.Quantifiers.{position-Some}
use Rattle.smol_str.specs.Keys.{id_of, ids_of, ids_in}
use Rattle.smol_str.proofs.CallerLemmas.Maps.{key_of}
use Rattle.smol_str.proofs.CallerLemmas.Values.{texts-push}

-- the first place at which a test passes, with one more element at the end: it stays, or is the new one's
position-more : {X : Type 0} (p : X → Bool) (xs : List X) (x : X) (b : Bool) → p x ≡ b
    → position p (xs ++ x ∷ []) ≡ cond (is_some (position p xs)) (position p xs) (cond b (Some (length xs)) None)
position-more p xs x b e =
    let after = prefix_len-append (λ y. not (p y)) xs (x ∷ []) in
    grind (arith, nat_tests, prefix_len-le-length (λ y. not (p y)) xs, after, length-append xs (x ∷ []), e)

position-kept : {X : Type 0} (p : X → Bool) (xs : List X) (x : X) → p x ≡ false → position p (xs ++ x ∷ []) ≡ position p xs
position-kept p xs x fails = let more = position-more p xs x false fails in grind (arith, common_steps, more)

-- a text that is not another: the other is not it
pub bytes_eq-apart : (s t : List ℕ) → bytes_eq s t ≡ false → bytes_eq t s ≡ false
bytes_eq-apart s t other =
    false_from_ne_true (bytes_eq t s) (λ e. false≢true (sym other ∙ (bytes_eq-Decides s t).1 (sym ((bytes_eq-Decides t s).0 e))))

-- a text keeps its id
pub id_of-stays : (t other : List ℕ) (names : List (List ℕ)) (id : ℕ) → id_of t names ≡ Some id → id_of t (interned other names) ≡ Some id
unfolding id_of
id_of-stays t other names id there = by (is_some (id_of other names)) where
  by : (b : Bool) → id_of t (cond b names (names ++ other ∷ [])) ≡ Some id
  by true = there
  by false = rw there at (position-more (bytes_eq t) names other _ refl)

-- a new name has the next one
pub id_of-new : (t : List ℕ) (names : List (List ℕ)) → id_of t names ≡ None → id_of t (names ++ t ∷ []) ≡ Some (length names)
unfolding id_of
id_of-new t names none = rw none at (position-more (bytes_eq t) names t true ((bytes_eq-Decides t t).1 refl))

-- the id gives the text back
pub id_of-back : (t : List ℕ) (names : List (List ℕ))
    → (id_of t names ≡ id_of t names) × ((id : ℕ) → id_of t names ≡ Some id → slice_get names id ≡ Some t)
unfolding id_of
id_of-back t names = (
  refl,
  λ id there.
      let at = position-Some (bytes_eq t) names id [] there in
      slice_get-get_or names id [] at.0 ∙ ap Some (sym ((bytes_eq-Decides t (get_or names id [])).0 at.1)),
)

-- the map finds it
pub ids_in-none : ids_in [] ≡ ids_of []
unfolding id_of ids_of ids_in
ids_in-none = λ i t. None

pub ids_in-found : (key : Meaning) (names : List (List ℕ)) → (id_of key.text names ≡ id_of key.text names)
    × ((es : List (Meaning × ℕ)) → ids_in es ≡ ids_of names → lookup (same_key key) es ≡ id_of key.text names)
unfolding ids_of ids_in
ids_in-found key names = (refl, λ es agree. ap (λ f. f key.text) agree)

-- and once it has the next id at a new name, it has the ids of the list with that name
pub ids_in-added : (eq : Meaning → Meaning → Bool) (check : Meaning → Bool) (old new : List (Meaning × ℕ))
    → KeepsOthers eq check old new
    → ((q : Meaning) → check q ≡ false → lookup (same_key q) new ≡ lookup (same_key q) old)
    → (KeepsOthers eq check old new ≡ KeepsOthers eq check old new)
    × ((key : Meaning) (names : List (List ℕ)) → ids_in old ≡ ids_of names → id_of key.text names ≡ None → check ≡ same_key key
    → lookup check new ≡ Some (length names) → ids_in new ≡ ids_of (names ++ key.text ∷ []))
unfolding id_of ids_of ids_in
ids_in-added eq check old new keeps others = (refl, λ key names agree none is there. λ i t. at key names agree none is there t (same_key key (key_of t)) refl i)
  where
    at : (key : Meaning) (names : List (List ℕ)) → ids_in old ≡ ids_of names → id_of key.text names ≡ None → check ≡ same_key key
        → lookup check new ≡ Some (length names) → (t : List ℕ) (b : Bool) → bytes_eq key.text t ≡ b
        → lookup (λ k. bytes_eq t k.text) new ≡ position (bytes_eq t) (names ++ key.text ∷ [])
    at key names agree none is there t true same =
        subst (λ u. lookup (λ (k : Meaning). bytes_eq u k.text) new ≡ position (bytes_eq u) (names ++ key.text ∷ [])) ((bytes_eq-Decides key.text t).0 same)
        (sym (ap (λ f. lookup f new) is) ∙ there ∙ sym (id_of-new key.text names none))
    at key names agree none is there t false other =
        others (key_of t) (ap (λ f. f (key_of t)) is ∙ other) ∙ ap (λ f. f t) agree
        ∙ sym (position-kept (bytes_eq t) names key.text (bytes_eq-apart key.text t other))

pub ruleset interning = (id_of-stays, id_of-new, id_of-back, ids_in-none, ids_in-found, ids_in-added, texts-push, length-map)
