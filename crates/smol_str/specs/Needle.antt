-- What a needle is: the text that a replacement searches for, as one byte, two, or a search that was prepared.
use Rattle.std.specs.Prelude.{◌≡◌, ◌<◌, ℕ, List, [], ◌∷◌, length}
use Rattle.std.specs.Str.{IsUtf8}
use Rattle.smol_str.specs.declared.bytes.search.Needle.{Needle}
use Rattle.smol_str.specs.declared.bytes.search.Needle.TheVariants.{One, Two, Long}

-- the bytes that an arm searches for
abbrev pub needle_bytes : Needle → List ℕ
needle_bytes (One byte) = byte ∷ []
needle_bytes (Two bytes) = bytes.now
needle_bytes (Long search) = search

-- they are a text that is not empty
abbrev pub IsSoundNeedle : Needle → Type 0
IsSoundNeedle (One byte) = IsUtf8 (byte ∷ [])
IsSoundNeedle (Two bytes) = IsUtf8 bytes.now × (length bytes.now ≡ 2)
IsSoundNeedle (Long search) = IsUtf8 search × (0 < length search)
