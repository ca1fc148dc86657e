-- The buffer of a short text.
use Rattle.std.specs.Prelude.{◌≡◌, ℕ, ◌-◌, ◌≤◌, List, [], ◌∷◌, ◌++◌, length, take, get_or, replicate, encode_utf8_all}
use Rattle.std.specs.Str.{IsUtf8}
use Rattle.smol_str.specs.Text.{size}
use Rattle.smol_str.specs.declared.buffer.TheConstants.{INLINE_CAP}

-- bytes, and zeros after them to the buffer's end
abbrev pub padded : List ℕ → List ℕ
padded bytes = bytes ++ replicate (INLINE_CAP - length bytes) 0

-- the whole buffers of two texts agree, and so does what counts of them
pub record HaveOneBuffer (s t : List ℕ) : Type 0 where
  pub size : size s ≡ size t
  pub bytes : padded (encode_utf8_all s) ≡ padded (encode_utf8_all t)

-- the buffer, and behind it how many bytes it holds
abbrev pub packed : List ℕ → List ℕ
packed bytes = padded bytes ++ (length bytes ∷ [])

-- the bytes that it holds
abbrev pub unpacked : List ℕ → List ℕ
unpacked buf = take (get_or buf INLINE_CAP 0) buf

-- they are UTF-8, zeros follow to the buffer's end, and then their length
pub record IsPacked (buf : List ℕ) : Type 0 where
  pub utf8 : IsUtf8 (unpacked buf)
  pub within : length (unpacked buf) ≤ INLINE_CAP
  pub reads : buf ≡ packed (unpacked buf)
