-- How often each text of a list of pairs (text, times) occurs in it.
--     tokens pairs           the texts of the pairs
--     times_of t pairs       the sum of the times of t
--     first_sights texts     each text once, in the order in which they first occur
--     tally pairs            those of the pairs, each with the sum of its times
--     seen_once texts        the texts, each with times 1
--     HasEachOnce pairs      no text is in two of the pairs
--     by_text entries        the entries of a table by values, each by its value's text
use Rattle.std.specs.Prelude.{◌≢◌, ℕ, List, [], ◌∷◌, not, map, filter, sum_by, bytes_eq, AllPairs, if◌then◌else◌}
use Rattle.smol_str.specs.Meaning.{Meaning}

-- the first of each pair
abbrev pub tokens : List (List ℕ × ℕ) → List (List ℕ)
tokens pairs = map (λ pair. pair.0) pairs

-- a pair of another text adds nothing
abbrev pub times_of : List ℕ → List (List ℕ × ℕ) → ℕ
times_of t pairs = sum_by (λ pair. if bytes_eq t pair.0 then pair.1 else 0) pairs

-- the texts other than t
abbrev pub without : List ℕ → List (List ℕ) → List (List ℕ)
without t texts = filter (λ u. not (bytes_eq t u)) texts

-- the first text, and the others after it
abbrev pub first_sights : List (List ℕ) → List (List ℕ)
first_sights [] = []
first_sights (t ∷ texts) = t ∷ without t (first_sights texts)

-- each text once
abbrev pub tally : List (List ℕ × ℕ) → List (List ℕ × ℕ)
tally pairs = map (λ t. (t, times_of t pairs)) (first_sights (tokens pairs))

-- a text that occurs twice has two pairs
abbrev pub seen_once : List (List ℕ) → List (List ℕ × ℕ)
seen_once texts = map (λ t. (t, 1)) texts

-- the texts differ, each from each
abbrev pub HasEachOnce : List (List ℕ × ℕ) → Type 0
HasEachOnce pairs = AllPairs (λ s t. s ≢ t) (tokens pairs)

-- a value counts as its text, whatever its place
abbrev pub by_text : List (Meaning × ℕ) → List (List ℕ × ℕ)
by_text entries = map (λ entry. (entry.0.text, entry.1)) entries
