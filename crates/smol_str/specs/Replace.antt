-- The one cut of a text, computed, and what replacing makes of it.
--     cut t p n               the pieces of t, cut at p at most n times
--     no_limit t              a limit that leaves no match out: no cut of t takes more
--     match_count t p         how many matches p has in t: the pieces of the unlimited cut, less one
--     replaced t p w n        t with w in place of the first n matches of p
--     replaced_all t p w      t with w in place of each match
--     each_with x w t         t with the text w in place of each character x
--     each_replaced x y t     t with y in place of each x
use Rattle.std.specs.Prelude.{ℕ, ◌+◌, ◌-◌, zero, suc, List, [], ◌∷◌, length, map, drop, Option, Some, None, unwrap_or, option_map, nat_eq, if◌then◌else◌}
use Rattle.std.specs.List.{starts_with, flat_map}
use Rattle.smol_str.specs.Cut.{joined_by}

-- what comes before the first match of p, and what follows that match; p is not empty, as `cut_at` has it
abbrev pub split_at_first : List ℕ → List ℕ → Option (List ℕ × List ℕ)
split_at_first p [] = None
split_at_first p (c ∷ t) =
    if starts_with nat_eq (c ∷ t) p
    then Some ([], drop (length p) (c ∷ t))
    else option_map (λ m. (c ∷ m.0, m.1)) (split_at_first p t)

-- at a pattern that is not empty: before the first match a piece, and what follows the match is cut further
abbrev pub cut_at : ℕ → List ℕ → List ℕ → List (List ℕ)
cut_at zero p t = t ∷ []
cut_at (suc n) p t = unwrap_or (option_map (λ m. m.0 ∷ cut_at n p m.1) (split_at_first p t)) (t ∷ [])

-- at most n pieces of one character, and the rest
abbrev pub spell : ℕ → List ℕ → List (List ℕ)
spell zero t = t ∷ []
spell (suc n) [] = [] ∷ []
spell (suc n) (c ∷ t) = (c ∷ []) ∷ spell n t

-- at the empty pattern: the empty piece before the first character, and then the characters
abbrev pub cut_between : ℕ → List ℕ → List (List ℕ)
cut_between zero t = t ∷ []
cut_between (suc n) t = [] ∷ spell n t

-- the pieces of `IsCut`
abbrev pub cut : List ℕ → List ℕ → ℕ → List (List ℕ)
cut t [] n = cut_between n t
cut t (c ∷ p) n = cut_at n (c ∷ p) t

-- one more than the text has characters
abbrev pub no_limit : List ℕ → ℕ
no_limit t = length t + 1

-- the matches that an unlimited cut takes
abbrev pub match_count : List ℕ → List ℕ → ℕ
match_count t p = length (cut t p (no_limit t)) - 1

-- `t.replacen(p, w, n)`: the pieces of the cut, joined by w
abbrev pub replaced : List ℕ → List ℕ → List ℕ → ℕ → List ℕ
replaced t p w n = joined_by w (cut t p n)

-- `t.replace(p, w)`
abbrev pub replaced_all : List ℕ → List ℕ → List ℕ → List ℕ
replaced_all t p w = replaced t p w (no_limit t)

-- character by character
abbrev pub each_with : ℕ → List ℕ → List ℕ → List ℕ
each_with x w t = flat_map (λ c. if nat_eq c x then w else c ∷ []) t

-- character by character, or byte by byte
abbrev pub each_replaced : ℕ → ℕ → List ℕ → List ℕ
each_replaced x y t = map (λ c. if nat_eq c x then y else c) t
