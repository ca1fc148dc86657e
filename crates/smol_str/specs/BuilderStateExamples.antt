-- Kinds of small builders, computed by the checker. Where a limit matters, the example names the constant.
use Rattle.std.specs.Prelude.{◌≡◌, ◌+◌, ◌-◌, [], ◌∷◌, codes, replicate, refl}
use Rattle.smol_str.specs.declared.buffer.TheConstants.{INLINE_CAP}
use Rattle.smol_str.specs.BuilderState.{Kind, InBuffer, OnHeap, empty_builder, appended, kind_for}
use Rattle.smol_str.specs.Joined.{joined, char_text}

-- a builder leaves its buffer with the first character that does not fit
last_byte : (appended (record { text = replicate (INLINE_CAP - 1) 97; kind = InBuffer }) (98 ∷ [])).kind ≡ InBuffer
unfolding lib.Utf8.encode
last_byte = refl

across_the_end : (appended (record { text = replicate (INLINE_CAP - 1) 97; kind = InBuffer }) (233 ∷ [])).kind ≡ OnHeap
unfolding lib.Utf8.encode
across_the_end = refl

-- and begins on the heap where a larger capacity was asked for
capacity_of_the_buffer : kind_for INLINE_CAP ≡ InBuffer
capacity_of_the_buffer = refl

larger_capacity : kind_for (INLINE_CAP + 1) ≡ OnHeap
larger_capacity = refl

-- a new builder has no text, in either kind
empty : (kind : Kind) → empty_builder kind ≡ record { text = []; kind = kind }
empty kind = refl

-- what is appended goes to the end, and text on the heap stays there
in_order : appended (record { text = codes "ab"; kind = OnHeap }) (codes "c") ≡ record { text = codes "abc"; kind = OnHeap }
in_order = refl

-- a new builder that a text is appended to keeps it in its buffer where it fits
short_builder : appended (empty_builder InBuffer) (codes "ab") ≡ record { text = codes "ab"; kind = InBuffer }
unfolding lib.Utf8.encode
short_builder = refl

long_builder : (appended (empty_builder InBuffer) (replicate (INLINE_CAP + 1) 97)).kind ≡ OnHeap
unfolding lib.Utf8.encode
long_builder = refl

-- texts in their order, and empty ones among them
texts_in_a_row : joined (λ t. t) (codes "ab" ∷ [] ∷ codes "c" ∷ []) ≡ codes "abc"
texts_in_a_row = refl

characters_in_a_row : joined char_text (codes "abc") ≡ codes "abc"
characters_in_a_row = refl
