-- The lines of a text.
--     is_newline c                 the character is U+000A
--     newline                      the text of it alone
--     without_empty_last pieces    the pieces, but for a last one that is empty
--     lines t                      the lines of t, without their newlines
--     HasNoNewline t               no character of t is a newline
--     ended texts                  each of the texts with a newline behind it, in a row
use Rattle.std.specs.Prelude.{◌≢◌, ℕ, Bool, List, [], ◌∷◌, ◌++◌, ◌==◌, All}
use Rattle.std.specs.List.{flat_map}
use Rattle.smol_str.specs.Replace.{cut, no_limit}

-- the character that ends a line; a carriage return does not
abbrev pub is_newline : ℕ → Bool
is_newline c = c == 10

-- that character, as a text
abbrev pub newline : List ℕ
newline = 10 ∷ []

-- all pieces but a last one that is empty
abbrev pub without_empty_last : List (List ℕ) → List (List ℕ)
without_empty_last [] = []
without_empty_last ([] ∷ []) = []
without_empty_last ((c ∷ cs) ∷ []) = (c ∷ cs) ∷ []
without_empty_last (piece ∷ next ∷ more) = piece ∷ without_empty_last (next ∷ more)

-- the pieces between newlines: what follows the last newline is a line where it is not empty
unfoldable pub lines : List ℕ → List (List ℕ)
lines t = without_empty_last (cut t newline (no_limit t))

-- the text has no newline
abbrev pub HasNoNewline : List ℕ → Type 0
HasNoNewline t = All (λ c. c ≢ 10) t

-- the texts as whole lines
abbrev pub ended : List (List ℕ) → List ℕ
ended texts = flat_map (λ t. t ++ newline) texts
