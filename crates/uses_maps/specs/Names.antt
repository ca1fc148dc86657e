-- Names, words and paths, as their texts.
--     with_word es t       the counts of words, in the order of the first ones, after the word t
--     segment_kind t       which segment of a path a text is: none, one up, or a name
--     above ts last        a path one up, where `last` is its last segment, if it has one
use Rattle.std.specs.Prelude.{ℕ, ◌+◌, ◌^◌, min, ◌||◌, ◌-◌, List, [], ◌∷◌, ◌++◌, Option, None, Some, bytes_eq, if◌then◌else◌, length, take}
use Rattle.smol_str.specs.Keys.{with_change}

abbrev pub with_word : List (List ℕ × ℕ) → List ℕ → List (List ℕ × ℕ)
with_word es t = with_change es t 0 (λ n. min (n + 1) (2 ^ 32 - 1))

abbrev pub dots : List ℕ
dots = 46 ∷ 46 ∷ []

abbrev pub segment_kind : List ℕ → ℕ
segment_kind t = if bytes_eq t [] || bytes_eq t (46 ∷ []) then 0 else (if bytes_eq t dots then 1 else 2)

abbrev pub above : List (List ℕ) → Option (List ℕ) → List (List ℕ)
above ts None = ts ++ dots ∷ []
above ts (Some last) = if bytes_eq last dots then ts ++ dots ∷ [] else take (length ts - 1) ts
