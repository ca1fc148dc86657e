-- The wire form of a text: a string of borsh.
--     HasWire t            t is short enough to have one
--     wire t               its size as a little-endian `u32`, and then its UTF-8 bytes
--     Holds b t n          the first n bytes of b are the wire form of t
--     prefix_size b        the size that the first four bytes of b state
--     HasEndedEarly b      b is shorter than four bytes, or than four bytes and the size that they state
--     body b               as many bytes as b states, from its fifth on
use Rattle.std.specs.Prelude.{◌≡◌, ℕ, ◌+◌, ◌<◌, ◌≤◌, ◌^◌, ◌⊎◌, List, ◌++◌, length, take, drop, IsTrue, encode_utf8_all}
use Rattle.std.specs.Str.{all_scalars}
use Rattle.std.specs.Int.{to_le_bytes, from_le_bytes, w32}
use Rattle.smol_str.specs.Text.{size}

-- the size of t is a `u32`: at most 4294967295
abbrev pub HasWire : List ℕ → Type 0
HasWire t = size t < 2 ^ 32

-- four bytes for the size, the lowest first, and then the text
unfoldable pub wire : List ℕ → List ℕ
wire t = to_le_bytes w32 (size t) ++ encode_utf8_all t

-- b has n bytes at least, and its first n are the wire form of t; t has scalar values only (no surrogates)
pub record Holds (b t : List ℕ) (n : ℕ) : Type 0 where
  pub scalars : IsTrue (all_scalars t)
  pub sized : HasWire t
  pub within : n ≤ length b
  pub reads : take n b ≡ wire t

-- four bytes read as a number, the lowest first
unfoldable pub prefix_size : List ℕ → ℕ
prefix_size b = from_le_bytes w32 (take 4 b)

-- no size, or less than the size
abbrev pub HasEndedEarly : List ℕ → Type 0
HasEndedEarly b = (length b < 4) ⊎ (length b < 4 + prefix_size b)

-- the bytes of the text that b holds, where b has not ended early
abbrev pub body : List ℕ → List ℕ
body b = take (prefix_size b) (drop 4 b)
