-- Texts one after another, of items of any kind.
--     joined f xs       the texts of the items xs, one after another, where f says the text of an item
--     char_text c, str_text s, string_text s, string_ref_text s
--                       the text of a `char`, a `&str`, a `String`, a `&String`
--     joined_strs xs, joined_strings xs, joined_string_refs xs
--                       the texts of `&str`s, of `String`s and of `&String`s, one after another; what is lent is read off
--                       what it refers to
use Rattle.std.specs.Prelude.{ℕ, List, [], ◌∷◌, String, map}
use Rattle.std.specs.List.{flat_map}
use Rattle.std.specs.Str.{chars}
use Rattle.std.specs.String.{string_bytes}
use Rattle.std.specs.declared.alloc.Global.{Global}
use denote.Ref.{Bor}

-- the items' texts, one after another
abbrev pub joined : {A : Type 0} → (A → List ℕ) → List A → List ℕ
joined f xs = flat_map f xs

-- a character is a text by itself
abbrev pub char_text : ℕ → List ℕ
char_text c = c ∷ []

-- the text of a `str`
abbrev pub str_text : Bor (List ℕ) → List ℕ
str_text s = chars s.now

-- the text of a `String`
abbrev pub string_text : String Global → List ℕ
string_text s = chars (string_bytes s)

-- the text of a borrowed `String`
abbrev pub string_ref_text : Bor (String Global) → List ℕ
string_ref_text s = string_text s.now

-- the texts of the bytes that the items refer to
abbrev pub joined_strs : List (Bor (List ℕ)) → List ℕ
joined_strs xs = joined chars (map (λ s. s.now) xs)

-- the texts of the `String`s
abbrev pub joined_strings : List (String Global) → List ℕ
joined_strings xs = joined string_text xs

-- the texts of the `String`s that the items refer to
abbrev pub joined_string_refs : List (Bor (String Global)) → List ℕ
joined_string_refs xs = joined string_text (map (λ s. s.now) xs)
