-- Values as keys and in lists, looked up by a text. They are equal where their texts are, and ordered as their texts, so
-- the place of a value plays no part.
--     same_key x y              the values are equal
--     value_at t m              what a `HashMap` has at the keys of the text t
--     ordered_value_at t m      what a `BTreeMap` has there
--     innermost t scopes        what the last of some lists of entries has there that has something, as in nested scopes
--     entry_lists ms            the entries of each of some maps
--     with_entry es t v         the entries es, in order, where the text t has v: in its place, or last where it is new
--     with_change es t w f      the entries es, in order, where the text t has f of what it had, or, last, f of w where it is new
--     entry_texts g es          the entries of a map with values as keys, as texts, where g reads what a key has
--     has_text t values         whether a list has a value of the text t
--     without ts us             the texts ts that are not among us, in their order; within ts us, those that are
--     values_without vs ws      the values whose texts are not among those of ws; values_within vs ws, those whose are
--     is_before s t             whether a value of the text s comes before one of t
--     stands_for bytes key      whether a `&str` of these bytes has the text of the value
--     id_of t names             the index of the first t among names, if there is one, as in an interner
--     interned t names          the names once the text is among them
--     ids_of names              the id of each text among names
--     ids_in es                 what a map of these entries has at each text
use Rattle.std.specs.Prelude.{ℕ, List, [], ◌∷◌, ◌++◌, Option, None, Bool, bytes_eq, encode_utf8_all, filter, map, is_some, not, position, if◌then◌else◌}
use Rattle.std.specs.List.{list_any}
use Rattle.std.specs.Ordering.{nat_cmp, is_lt}
use Rattle.std.specs.Cmp.Lexicographic.{slice_cmp}
use Rattle.std.specs.HashMap.{HashMap, get_by}
use Rattle.std.specs.Map.{lookup}
use Rattle.std.specs.Option.{option_or}
use Rattle.std.specs.BTreeMap.{BTreeMap, get_by as ordered_get_by}
use Rattle.smol_str.specs.Meaning.{Meaning}

-- `x == y`
abbrev pub same_key : Meaning → Meaning → Bool
same_key x y = bytes_eq x.text y.text

-- `m.get(&key)`, for any key of the text
abbrev pub value_at : {V S : Type 0} → List ℕ → HashMap Meaning V S → Option V
value_at t m = get_by (λ key. bytes_eq t key.text) m

abbrev pub ordered_value_at : {V : Type 0} → List ℕ → BTreeMap Meaning V → Option V
ordered_value_at t m = ordered_get_by (λ key. slice_cmp nat_cmp t key.text) m

-- in scopes one inside another, the innermost last
abbrev pub innermost : {V : Type 0} → List ℕ → List (List (Meaning × V)) → Option V
innermost t [] = None
innermost t (es ∷ scopes) = option_or (innermost t scopes) (lookup (λ key. bytes_eq t key.text) es)

abbrev pub entry_lists : {K V S : Type 0} → List (HashMap K V S) → List (List (K × V))
entry_lists ms = map (λ m. m.entries) ms

-- what a map in order of insertion has, as texts, after `m.insert(key, v)`
abbrev pub with_entry : {V : Type 0} → List (List ℕ × V) → List ℕ → V → List (List ℕ × V)
with_entry [] t v = (t, v) ∷ []
with_entry (e ∷ es) t v = if bytes_eq t e.0 then (e.0, v) ∷ es else e ∷ with_entry es t v

-- the same after `f` of what `m.entry(key)?.or_insert(w)` lends
abbrev pub with_change : {V : Type 0} → List (List ℕ × V) → List ℕ → V → (V → V) → List (List ℕ × V)
with_change [] t w f = (t, f w) ∷ []
with_change (e ∷ es) t w f = if bytes_eq t e.0 then (e.0, f e.1) ∷ es else e ∷ with_change es t w f

abbrev pub entry_texts : {V W : Type 0} → (V → W) → List (Meaning × V) → List (List ℕ × W)
entry_texts g es = map (λ e. (e.0.text, g e.1)) es

-- `values.contains(&value)`, for any value of the text
abbrev pub has_text : List ℕ → List Meaning → Bool
has_text t values = list_any (λ value. bytes_eq value.text t) values

-- `left < right`
abbrev pub is_before : List ℕ → List ℕ → Bool
is_before s t = is_lt (slice_cmp nat_cmp s t)

-- in a look-up by a `&str`, for which no value is made
abbrev pub stands_for : List ℕ → Meaning → Bool
stands_for bytes key = bytes_eq bytes (encode_utf8_all key.text)

-- these are opaque in goals, where lemmas find them by their names
unfoldable pub id_of : List ℕ → List (List ℕ) → Option ℕ
id_of t names = position (bytes_eq t) names

abbrev pub interned : List ℕ → List (List ℕ) → List (List ℕ)
interned t names = if is_some (id_of t names) then names else names ++ t ∷ []

unfoldable pub ids_of : List (List ℕ) → List ℕ → Option ℕ
ids_of names t = id_of t names

unfoldable pub ids_in : List (Meaning × ℕ) → List ℕ → Option ℕ
ids_in es t = lookup (λ key. bytes_eq t key.text) es

unfoldable pub without : List (List ℕ) → List (List ℕ) → List (List ℕ)
without ts us = filter (λ t. not (list_any (λ u. bytes_eq u t) us)) ts

unfoldable pub within : List (List ℕ) → List (List ℕ) → List (List ℕ)
within ts us = filter (λ t. list_any (λ u. bytes_eq u t) us) ts

unfoldable pub values_without : List Meaning → List Meaning → List Meaning
values_without vs ws = filter (λ v. not (has_text v.text ws)) vs

unfoldable pub values_within : List Meaning → List Meaning → List Meaning
values_within vs ws = filter (λ v. has_text v.text ws) vs
