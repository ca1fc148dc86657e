-- Texts. A text is a list of characters: Unicode scalar values, as numbers.
--     size t            the length of its UTF-8 form, in bytes
--     IsShort t         it fits the buffer of an inline value
--     IsBlankRun t      newlines and then spaces, few enough of each
--     IsResident t      short, or a blank run: it needs no memory
--     place_of t        where a value of the text keeps it
-- The bytes of t are `encode_utf8_all t`, and the text of UTF-8 bytes bs is `chars bs`, both of std.
use Rattle.std.specs.Prelude.{◌≡◌, ℕ, ◌-◌, ◌≤◌, List, ◌++◌, length, drop, replicate, encode_utf8_all, ◌⊎◌, Bool, ◌&&◌, ◌==◌, nat_le, if◌then◌else◌}
use Rattle.std.specs.List.{list_all, prefix_len}
use Rattle.smol_str.specs.declared.value.place.Place.{Place}
use Rattle.smol_str.specs.declared.value.place.Place.TheVariants.{Inline, Static, Heap}
use Rattle.smol_str.specs.declared.buffer.TheConstants.{INLINE_CAP}
use Rattle.smol_str.specs.declared.value.blank.TheConstants.{BLANK_NEWLINES, BLANK_SPACES}

-- how many bytes the text has in UTF-8
abbrev pub size : List ℕ → ℕ
size t = length (encode_utf8_all t)

-- the text fits the buffer of an inline value
abbrev pub IsShort : List ℕ → Type 0
IsShort t = size t ≤ INLINE_CAP

-- so many newlines (U+000A), and then so many spaces (U+0020)
abbrev pub blank_run : ℕ → ℕ → List ℕ
blank_run newlines spaces = replicate newlines 10 ++ replicate spaces 32

-- the text is such a run, and has at most as many of each as the blank constant
pub record IsBlankRun (t : List ℕ) : Type 0 where
  pub newlines : ℕ
  pub spaces : ℕ
  pub few_newlines : newlines ≤ BLANK_NEWLINES
  pub few_spaces : spaces ≤ BLANK_SPACES
  pub reads : t ≡ blank_run newlines spaces

-- a value of the text needs no memory
abbrev pub IsResident : List ℕ → Type 0
IsResident t = IsShort t ⊎ IsBlankRun t

-- how many newlines the text begins with
abbrev pub leading_newlines : List ℕ → ℕ
leading_newlines t = prefix_len (λ c. c == 10) t

-- the text has no character but spaces
abbrev pub all_spaces : List ℕ → Bool
all_spaces t = list_all (λ c. c == 32) t

-- the test that decides `IsShort`
abbrev pub is_short : List ℕ → Bool
is_short t = nat_le (size t) INLINE_CAP

-- the test that decides `IsBlankRun`
unfoldable pub is_blank_run : List ℕ → Bool
is_blank_run t =
    nat_le (leading_newlines t) BLANK_NEWLINES
    && (nat_le (length t - leading_newlines t) BLANK_SPACES && all_spaces (drop (leading_newlines t) t))

-- in the value where the text is short, in the blank constant where it is a blank run, else on the heap
unfoldable pub place_of : List ℕ → Place
place_of t = if is_short t then Inline else (if is_blank_run t then Static else Heap)
