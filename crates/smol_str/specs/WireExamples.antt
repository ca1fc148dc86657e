-- Wire forms of small texts, computed by the checker.
use Rattle.std.specs.Prelude.{◌≡◌, [], ◌∷◌, refl}
use Rattle.std.proofs.Common.{inl, inr, lit<}
use Rattle.smol_str.specs.Wire.{wire, prefix_size, body, HasEndedEarly}

wire_ab : wire (97 ∷ 98 ∷ []) ≡ 2 ∷ 0 ∷ 0 ∷ 0 ∷ 97 ∷ 98 ∷ []
unfolding wire lib.Utf8.encode
wire_ab = refl

wire_empty : wire [] ≡ 0 ∷ 0 ∷ 0 ∷ 0 ∷ []
unfolding wire
wire_empty = refl

-- 🦀: the size counts bytes
wire_crab : wire (129408 ∷ []) ≡ 4 ∷ 0 ∷ 0 ∷ 0 ∷ 0xF0 ∷ 0x9F ∷ 0xA6 ∷ 0x80 ∷ []
unfolding wire lib.Utf8.encode
wire_crab = refl

-- the lowest byte of the size is the first
prefix_size_low : prefix_size (0x84 ∷ 1 ∷ 0 ∷ 0 ∷ []) ≡ 388
unfolding prefix_size
prefix_size_low = refl

-- the seventh byte is not part of the body
body_ab : body (2 ∷ 0 ∷ 0 ∷ 0 ∷ 97 ∷ 98 ∷ 99 ∷ []) ≡ 97 ∷ 98 ∷ []
unfolding prefix_size
body_ab = refl

no_bytes : HasEndedEarly []
no_bytes = inl (lit< tt)

size_cut_short : HasEndedEarly (0 ∷ 0 ∷ 0 ∷ [])
size_cut_short = inl (lit< tt)

body_cut_short : HasEndedEarly (5 ∷ 0 ∷ 0 ∷ 0 ∷ 0xFF ∷ [])
unfolding prefix_size
body_cut_short = inr (lit< tt)

-- the size of the size counts too
body_one_byte_short : HasEndedEarly (2 ∷ 0 ∷ 0 ∷ 0 ∷ 97 ∷ [])
unfolding prefix_size
body_one_byte_short = inr (lit< tt)

largest_size : HasEndedEarly (0xFF ∷ 0xFF ∷ 0xFF ∷ 0xFF ∷ 97 ∷ 98 ∷ 99 ∷ [])
unfolding prefix_size
largest_size = inr (lit< tt)
