-- The characters that the front of a JSON string's content spells, in the words of `json`'s grammar.
--     Unescapes bytes s rest         within a string, the bytes spell s, and then what rest spells
--     UnescapesAfterU bytes s rest   the same of bytes behind a backslash and a `u`
--     BeginsWithUnit bytes u rest    four hex digits that spell the UTF-16 code unit u, and then rest
--     IsSurrogatePair high low c     the two surrogates of the character c
use Rattle.std.specs.Prelude.{◌≡◌, ℕ, ◌<◌, ◌≤◌, List, ◌∷◌, Some}
use Rattle.json.specs.Text.{content, plain, after_u, prepend, code_unit, surrogate_pair}
use Rattle.json.specs.Lex.{lex, in_string}

-- the string does not end before rest
abbrev pub Unescapes : List ℕ → List ℕ → List ℕ → Type 0
Unescapes bytes s rest = (content plain bytes ≡ prepend s (content plain rest)) × (lex in_string bytes ≡ lex in_string rest)

abbrev pub UnescapesAfterU : List ℕ → List ℕ → List ℕ → Type 0
UnescapesAfterU bytes s rest = (content after_u bytes ≡ prepend s (content plain rest)) × (lex in_string bytes ≡ lex in_string rest)

abbrev pub BeginsWithUnit : List ℕ → ℕ → List ℕ → Type 0
BeginsWithUnit bytes unit rest =
    (a : ℕ) × (b : ℕ) × (c : ℕ) × (d : ℕ) × (bytes ≡ a ∷ b ∷ c ∷ d ∷ rest) × (code_unit a b c d ≡ Some unit)

abbrev pub IsSurrogatePair : ℕ → ℕ → ℕ → Type 0
IsSurrogatePair high low c = (0xd800 ≤ high) × (high < 0xdc00) × (0xdc00 ≤ low) × (low < 0xe000) × (c ≡ surrogate_pair high low)
