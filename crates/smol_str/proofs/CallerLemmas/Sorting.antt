-- Values that were sorted, each text kept once, searched and compared.
use Rattle.smol_str.proofs.Common.{false, ⊎_elim, cases_lt, get_or, Ok, Err, IfOk, OnErr, refl, sym, ◌≡◌, ℕ, ◌+◌, ◌<◌, List, [], ◌∷◌, length, Bool, Some, ap, ◌∙◌, arith, length-map, nat_cmp, slice_cmp, slice_get, Meaning, Result, OnOk, on_ok_weaker, rules, IsTrue}
use Rattle.smol_str.proofs.CallerLemmas.Common.{◌↔◌, nat_eq, dedup, dedup_from, HoldsAt, is_eq, bytes_eq, get_or-map, list_any_none, bytes_eq-Decides, slice_eq-Decides, slice_get-get_or, has_text, texts}
use Rattle.std.specs.List.Retain.{IsFiltered, DiffersFromLast}
use Rattle.std.specs.List.Sorted.{IsSorted, IsSortedByKey, IsStrictlySortedBy, IsBinarySearchResult, IsSearchInRange}
use Rattle.std.specs.declared.cmp.Ordering.TheVariants.{Equal}
use Rattle.std.specs.Cmp.Derive.Mapped.{pointwise-map}
use Rattle.std.specs.Cmp.Lexicographic.{nat_list_cmp_total, pointwise, texts_ties}
use Rattle.std.proofs.lemmas.List.Filters.{dedup_is}
use Rattle.std.proofs.lemmas.List.Kept.{IsStrictlySortedBy-dedup}
use Rattle.std.proofs.lemmas.List.Sorted.{searchable_from_sorted}
use Rattle.smol_str.proofs.CallerLemmas.Maps.{key_of}
use Rattle.smol_str.proofs.CallerLemmas.Values.{text_at}

-- sorted values are those whose texts are sorted
pub IsSorted-texts : (names : List Meaning) → IsSortedByKey (λ (v : Meaning). v.text) (slice_cmp nat_cmp) names →
    IsSorted (slice_cmp nat_cmp) (texts names)
IsSorted-texts names up = λ k d low high.
    let within : k + 1 < length names = omega (arith, high, length-map names (λ (v : Meaning). v.text)) in
    let text = λ (j : ℕ) (h : j < length names). get_or-map (λ (v : Meaning). v.text) names j (key_of d) d h in
    rw (text (k + 1) within, text k (omega arith)) (up k (key_of d) low within)

-- and the other way round
sorted-by_text : (names : List Meaning) → IsSorted (slice_cmp nat_cmp) (texts names)
    → IsSortedByKey (λ (v : Meaning). v.text) (slice_cmp nat_cmp) names
sorted-by_text names up = λ k d low high.
    let text = λ (j : ℕ) (h : j < length names). get_or-map (λ (v : Meaning). v.text) names j d d.text h in
    rw (← text (k + 1) high, ← text k (omega arith)) (up k d.text low (omega (arith, length-map names (λ (v : Meaning). v.text))))

-- so of a list that was sorted
pub sorted-texts : {T E : Type 0} (r : Result T E) (names : List Meaning)
    → OnOk r (IsSortedByKey (λ (v : Meaning). v.text) (slice_cmp nat_cmp) names) → OnOk r (IsSorted (slice_cmp nat_cmp) (texts names))
sorted-texts r names up = on_ok_weaker r (IsSorted-texts names) up

-- `binary_search` in sorted values
pub value_found : (r : Result ℕ ℕ) (vs : List Meaning) (t : List ℕ) → IfOk r (HoldsAt (λ y. slice_cmp nat_cmp y.text t ≡ Equal) vs)
    → IsSearchInRange r (length vs) → IfOk r (λ i. slice_get (texts vs) i ≡ Some t)
value_found (Ok i) vs t at range =
    let v = get_or vs i (key_of t) in
    let same : v.text ≡ t = (bytes_eq-Decides v.text t).0 (texts_ties v.text t ∙ ap is_eq (at (key_of t))) in
    text_at vs i v (slice_get-get_or vs i (key_of t) range) ∙ ap Some same
value_found (Err i) vs t at range = tt

pub value_missing : (r : Result ℕ ℕ) (vs : List Meaning) (t : List ℕ) → IsSorted (slice_cmp nat_cmp) (texts vs)
    → IsBinarySearchResult (λ y. slice_cmp nat_cmp y.text t) vs r → OnErr r (has_text t vs ≡ false)
value_missing (Ok i) vs t up said = tt
value_missing (Err i) vs t up said =
    let parted = said (searchable_from_sorted nat_list_cmp_total (λ (v : Meaning). v.text) vs t (sorted-by_text vs up)) in
    list_any_none (λ v. bytes_eq v.text t) vs (λ k d lt. ⊎_elim
    (λ below. texts_ties (get_or vs k d).text t ∙ ap is_eq (parted.0 k d (omega arith) below))
    (λ from. texts_ties (get_or vs k d).text t ∙ ap is_eq (parted.1 k d from lt)) (cases_lt k i))

-- and then each text once, by `dedup`
texts-dedup_from : (v : Meaning) (vs : List Meaning)
    → texts (dedup_from (λ x y. bytes_eq x.text y.text) v vs) ≡ dedup_from bytes_eq v.text (texts vs)
texts-dedup_from v [] = refl
texts-dedup_from v (w ∷ vs) = search (rules, texts-dedup_from v vs, texts-dedup_from w vs)

texts-dedup : (vs : List Meaning) → texts (dedup (λ x y. bytes_eq x.text y.text) vs) ≡ dedup bytes_eq (texts vs)
texts-dedup [] = refl
texts-dedup (v ∷ vs) = texts-dedup_from v vs

pub texts-once : (new : List Meaning)
    → ((old : List Meaning) × IsFiltered (DiffersFromLast (λ x y. bytes_eq x.text y.text)) [] old new × IsSorted (slice_cmp nat_cmp) (texts old))
    → IsStrictlySortedBy (slice_cmp nat_cmp) (texts new)
texts-once new (old, kept, up) =
    let same : texts new ≡ dedup bytes_eq (texts old) =
    ap texts (dedup_is (λ x y. bytes_eq x.text y.text) old new kept) ∙ texts-dedup old in
    rw same (IsStrictlySortedBy-dedup nat_list_cmp_total texts_ties (texts old) up)

-- what `==` says of two lists
pub lists_same : (vs ws : List Meaning) (b : Bool) → b ≡ pointwise (λ (v w : Meaning). pointwise nat_eq v.text w.text) vs ws
    → IsTrue b ↔ (texts vs ≡ texts ws)
lists_same vs ws b is =
    let by_texts = pointwise-map (λ (v : Meaning). v.text) (pointwise nat_eq) vs ws in
    let h = slice_eq-Decides bytes_eq-Decides (texts vs) (texts ws) b (is ∙ sym by_texts) in
    search (rules, h)

pub ruleset sorting = (sorted-texts, IsSorted-texts, texts-once, value_found, value_missing, lists_same)
