-- ASCII case, and full case.
--     letter case c         the character c in this case of ASCII
--     converted case t      t in this case of ASCII, character by character; others than ASCII letters stay
--     lower t               A to Z made a to z
--     upper t               a to z made A to Z
--     front t               the longest front of t of ASCII characters
--     IsAsciiFront bytes n  the first n of the bytes are ASCII
--     IsAsciiText t         t has ASCII characters alone: those below 80 hexadecimal
--     BeginsPastAscii t     t does not begin with one
--     letters case c        what Unicode maps the character c to by itself
--     mapped case t         t in this case of Unicode, each character by itself
--     lowercased t          t as `str::to_lowercase` makes it
--     uppercased t          t as `str::to_uppercase` makes it
--     full_case case t      t in this case of Unicode
-- `to_ascii_lowercase`, `to_ascii_uppercase` and `is_ascii` of a character are std's.
use Rattle.std.specs.Prelude.{ℕ, false, ◌<◌, ◌≤◌, List, [], ◌∷◌, ⊤, length, take, map, take_while, All}
use Rattle.std.specs.List.{flat_map}
use Rattle.std.specs.Char.{to_ascii_lowercase, to_ascii_uppercase, is_ascii}
use Rattle.std.specs.Char.Unicode.ToLowercase.{to_lowercase}
use Rattle.std.specs.Char.Unicode.ToUppercase.{to_uppercase}
use Rattle.std.specs.Str.{IsAscii}
use Rattle.std.specs.StrCase.Lower.{lowercase_chars}
use Rattle.smol_str.specs.declared.bytes.ascii.AsciiCase.{AsciiCase}
use Rattle.smol_str.specs.declared.bytes.ascii.AsciiCase.TheVariants.{Lower, Upper}

-- std's mapping of an ASCII letter
abbrev pub letter : AsciiCase → ℕ → ℕ
letter Lower = to_ascii_lowercase
letter Upper = to_ascii_uppercase

-- the text in this case
abbrev pub converted : AsciiCase → List ℕ → List ℕ
converted case t = map (letter case) t

-- each capital letter of ASCII made small
abbrev pub lower : List ℕ → List ℕ
lower t = converted Lower t

-- each small letter of ASCII made a capital
abbrev pub upper : List ℕ → List ℕ
upper t = converted Upper t

-- what comes before the first character past ASCII
abbrev pub front : List ℕ → List ℕ
front t = take_while is_ascii t

-- the first `n` of the bytes are ASCII
pub record IsAsciiFront (bytes : List ℕ) (n : ℕ) : Type 0 where
  pub inside : n ≤ length bytes
  pub low : IsAscii (take n bytes)

-- each character is ASCII
abbrev pub IsAsciiText : List ℕ → Type 0
IsAsciiText t = All (λ c. c < 0x80) t

-- the text is empty, or its first character is past ASCII
abbrev pub BeginsPastAscii : List ℕ → Type 0
BeginsPastAscii [] = ⊤
BeginsPastAscii (c ∷ t) = 0x80 ≤ c

-- std's mapping of a character
abbrev pub letters : AsciiCase → ℕ → List ℕ
letters Lower = to_lowercase
letters Upper = to_uppercase

-- each character in this case, as std maps a character
abbrev pub mapped : AsciiCase → List ℕ → List ℕ
mapped case t = flat_map (letters case) t

-- each character made small as Unicode maps it, and a capital sigma at the end of a word made U+03C2
abbrev pub lowercased : List ℕ → List ℕ
lowercased t = lowercase_chars false t

-- each character made a capital as Unicode maps it
abbrev pub uppercased : List ℕ → List ℕ
uppercased t = mapped Upper t

-- the text in this case, as std maps a whole text
abbrev pub full_case : AsciiCase → List ℕ → List ℕ
full_case Lower t = lowercased t
full_case Upper t = uppercased t
