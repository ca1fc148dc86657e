-- Sizes, blank runs and places of small texts, computed by the checker. Where a limit matters, the example names
-- the constant; and where two limits do, it holds whichever of them is the larger one.
use Rattle.std.specs.Prelude.{◌≡◌, ℕ, ◌+◌, ◌-◌, [], ◌∷◌, ◌++◌, replicate, true, false, if◌then◌else◌, nat_le, refl}
use Rattle.smol_str.specs.declared.value.place.Place.{Place}
use Rattle.smol_str.specs.declared.value.place.Place.TheVariants.{Inline, Static, Heap}
use Rattle.smol_str.specs.declared.buffer.TheConstants.{INLINE_CAP}
use Rattle.smol_str.specs.declared.value.blank.TheConstants.{BLANK_NEWLINES, BLANK_SPACES}
use Rattle.smol_str.specs.Text.{size, blank_run, is_blank_run, place_of}

empty : place_of [] ≡ Inline
unfolding place_of lib.Utf8.encode
empty = refl

fills_the_buffer : place_of (replicate INLINE_CAP 97) ≡ Inline
unfolding place_of lib.Utf8.encode
fills_the_buffer = refl

one_byte_more : place_of (replicate (INLINE_CAP + 1) 97) ≡ Heap
unfolding place_of is_blank_run lib.Utf8.encode
one_byte_more = refl

-- é, €, 🦀: two, three and four bytes
widths : size (97 ∷ 233 ∷ 8364 ∷ 129408 ∷ []) ≡ 1 + 2 + 3 + 4
unfolding lib.Utf8.encode
widths = refl

two_bytes_that_fit : place_of (replicate (INLINE_CAP - 2) 97 ++ 233 ∷ []) ≡ Inline
unfolding place_of lib.Utf8.encode
two_bytes_that_fit = refl

two_bytes_across_the_end : place_of (replicate (INLINE_CAP - 1) 97 ++ 233 ∷ []) ≡ Heap
unfolding place_of is_blank_run lib.Utf8.encode
two_bytes_across_the_end = refl

three_bytes_across_the_end : place_of (replicate (INLINE_CAP - 2) 97 ++ 8364 ∷ []) ≡ Heap
unfolding place_of is_blank_run lib.Utf8.encode
three_bytes_across_the_end = refl

four_bytes_across_the_end : place_of (replicate (INLINE_CAP - 3) 97 ++ 129408 ∷ []) ≡ Heap
unfolding place_of is_blank_run lib.Utf8.encode
four_bytes_across_the_end = refl

longest_blank_run : is_blank_run (blank_run BLANK_NEWLINES BLANK_SPACES) ≡ true
unfolding is_blank_run
longest_blank_run = refl

-- of so many bytes: in the buffer where they fit
abbrev inline_or : Place → ℕ → Place
inline_or place n = if nat_le n INLINE_CAP then Inline else place

longest_run : place_of (blank_run BLANK_NEWLINES BLANK_SPACES) ≡ inline_or Static (BLANK_NEWLINES + BLANK_SPACES)
unfolding place_of is_blank_run lib.Utf8.encode
longest_run = refl

newlines_alone : place_of (replicate BLANK_NEWLINES 10) ≡ inline_or Static BLANK_NEWLINES
unfolding place_of is_blank_run lib.Utf8.encode
newlines_alone = refl

newlines_alone_one_too_many : place_of (replicate (BLANK_NEWLINES + 1) 10) ≡ inline_or Heap (BLANK_NEWLINES + 1)
unfolding place_of is_blank_run lib.Utf8.encode
newlines_alone_one_too_many = refl

-- a newline too many, and enough spaces that the text is not short
newline_too_many : place_of (blank_run (BLANK_NEWLINES + 1) INLINE_CAP) ≡ Heap
unfolding place_of is_blank_run lib.Utf8.encode
newline_too_many = refl

space_too_many : is_blank_run (blank_run BLANK_NEWLINES (BLANK_SPACES + 1)) ≡ false
unfolding is_blank_run
space_too_many = refl

space_before_newline : place_of (replicate INLINE_CAP 32 ++ 10 ∷ []) ≡ Heap
unfolding place_of is_blank_run lib.Utf8.encode
space_before_newline = refl
