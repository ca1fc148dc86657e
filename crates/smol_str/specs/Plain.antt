-- Plain texts, which JSON writes in quotes without escapes.
--     is_plain c        the character, or the byte, needs no escape
--     IsPlain t         none of the text needs one
--     is_space c        the byte is white space of JSON
--     IsPlainJson b t   the bytes are the plain text t in quotes, with white space around them at the most
use Rattle.std.specs.Prelude.{◌≡◌, ℕ, List, [], ◌∷◌, ◌++◌, Bool, not, ◌||◌, ◌==◌, nat_lt, IsTrue, encode_utf8_all}
use Rattle.std.specs.List.{list_all}

-- no quote, backslash or control character, which are those below a space
abbrev pub is_plain : ℕ → Bool
is_plain c = not (c == 34 || c == 92 || nat_lt c 32)

abbrev pub IsPlain : List ℕ → Type 0
IsPlain t = IsTrue (list_all is_plain t)

-- a space, a tab, and the two ends of lines
abbrev pub is_space : ℕ → Bool
is_space c = c == 32 || c == 9 || c == 10 || c == 13

-- the bytes between two quotes
abbrev pub in_quotes : List ℕ → List ℕ
in_quotes bytes = 34 ∷ (bytes ++ 34 ∷ [])

-- white space, a quote, the text, a quote, white space
abbrev pub IsPlainJson : List ℕ → List ℕ → Type 0
IsPlainJson b t = IsPlain t
    × ((before : List ℕ) × (behind : List ℕ) × IsTrue (list_all is_space before) × IsTrue (list_all is_space behind)
    × (b ≡ before ++ 34 ∷ (encode_utf8_all t ++ 34 ∷ behind)))
