-- Lists of texts on the wire, as borsh's `Vec` of strings.
--     CanBeListed ts         the texts are few enough, and none is too long
--     list_form ts           how many they are, as four little-endian bytes, and then their wire forms, one after another
--     BeginsWithList bytes   the bytes begin with the form of a list of texts
--     AfterListFault         what holds where no list was read
--     AfterUnlisted          what holds where none was written
use Rattle.std.specs.Prelude.{◌≡◌, ℕ, ◌<◌, ◌^◌, List, ◌++◌, length, All, IsTrue, ⊤, flat_map}
use Rattle.std.specs.Str.{all_scalars}
use Rattle.std.specs.Int.{w32, to_le_bytes}
use Rattle.smol_str.specs.Wire.{HasWire, wire}
use Rattle.smol_str.specs.declared.borsh.fault.EncodeFault.{EncodeFault}
use Rattle.smol_str.specs.declared.borsh.fault.EncodeFault.TheVariants.{TooLong, Io as WriteFailed}
use Rattle.smol_str.specs.declared.borsh.fault.DecodeFault.{DecodeFault}
use Rattle.smol_str.specs.declared.borsh.fault.DecodeFault.TheVariants.{Ended, NotUtf8, OutOfMemory, Io as ReadFailed}

pub record CanBeListed (ts : List (List ℕ)) : Type 0 where
  pub few : length ts < 2 ^ 32
  pub sized : All HasWire ts

abbrev pub list_form : List (List ℕ) → List ℕ
list_form ts = to_le_bytes w32 (length ts) ++ flat_map wire ts

-- and with what follows it
abbrev pub BeginsWithList : List ℕ → Type 0
BeginsWithList bytes =
    (ts : List (List ℕ)) × (rest : List ℕ) × CanBeListed ts × All (λ t. IsTrue (all_scalars t)) ts
    × (bytes ≡ list_form ts ++ rest)

-- not UTF-8: nor do they with more behind them; no reader is asked, and so none fails
abbrev pub AfterListFault : List ℕ → DecodeFault → Type 0
AfterListFault bytes Ended = ¬ (BeginsWithList bytes)
AfterListFault bytes (NotUtf8 e) = (more : List ℕ) → ¬ (BeginsWithList (bytes ++ more))
AfterListFault bytes OutOfMemory = ⊤
AfterListFault bytes (ReadFailed e) = ⊥

-- a `Vec` that is written fails where memory is refused
abbrev pub AfterUnlisted : List (List ℕ) → EncodeFault → Type 0
AfterUnlisted ts TooLong = ¬ (CanBeListed ts)
AfterUnlisted ts (WriteFailed e) = ⊤
