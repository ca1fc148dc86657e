-- Texts of count lines, as mode tokens writes them, and their merge.
--     count_line e                the count line of a token and how often it occurs
--     IsEntry e                   what a count line can hold: a token without a newline, and a `u64`
--     IsCounts t pairs            the text is the count lines of the pairs
--     IsMerge t out               out counts each token of the count lines t once, with the sum of its counts
--     BeginsWith t pairs rest     t is the count lines of the pairs, and then the rest
--     IsFirstOther t n            line n of t is the first that is not a count line
--     IsWhole t                   t is empty or ends with a newline
--     HasATokenTooOften pairs     the times of some token add up to more than `u64::MAX`
use Rattle.std.specs.Prelude.{◌≡◌, ◌⊎◌, ◌+◌, ◌<◌, ◌≤◌, ◌^◌, ℕ, List, [], ◌∷◌, ◌++◌, length, codes, All}
use Rattle.std.specs.Fmt.{decimal}
use Rattle.std.specs.List.{flat_map}
use Rattle.smol_tokens_core.specs.Lines.{newline, HasNoNewline}
use Rattle.smol_tokens_core.specs.Tally.{times_of, tally}

-- a count in decimal, a space, the token, and a newline
abbrev pub count_line : List ℕ × ℕ → List ℕ
count_line e = decimal e.1 ++ (codes " " ++ (e.0 ++ codes "\n"))

-- the token is one line, and the count is in range
abbrev pub IsEntry : List ℕ × ℕ → Type 0
IsEntry e = HasNoNewline e.0 × (e.1 < 2 ^ 64)

-- what is written of the pairs, and nothing else
abbrev pub IsCounts : List ℕ → List (List ℕ × ℕ) → Type 0
IsCounts t pairs = (t ≡ flat_map count_line pairs) × All IsEntry pairs

-- count lines again, of the tally of what is read
abbrev pub IsMerge : List ℕ → List ℕ → Type 0
IsMerge t out = (pairs : List (List ℕ × ℕ)) × IsCounts t pairs × IsCounts out (tally pairs)

-- the rest need not be a line
abbrev pub BeginsWith : List ℕ → List (List ℕ × ℕ) → List ℕ → Type 0
BeginsWith t pairs rest = (t ≡ flat_map count_line pairs ++ rest) × All IsEntry pairs

-- n - 1 count lines come first, and then a rest that begins with none
abbrev pub IsFirstOther : List ℕ → ℕ → Type 0
IsFirstOther t n =
    (pairs : List (List ℕ × ℕ)) × (rest : List ℕ) × BeginsWith t pairs rest × (length pairs + 1 ≡ n)
    × (0 < length rest) × ((e : List ℕ × ℕ) (after : List ℕ) → ¬ BeginsWith rest (e ∷ []) after)

-- nothing follows the last newline
abbrev pub IsWhole : List ℕ → Type 0
IsWhole t = (t ≡ []) ⊎ ((front : List ℕ) × (t ≡ front ++ newline))

abbrev pub HasATokenTooOften : List (List ℕ × ℕ) → Type 0
HasATokenTooOften pairs = (token : List ℕ) × (2 ^ 64 ≤ times_of token pairs)
