-- When each fault comes.
use Rattle.std.specs.Prelude.{◌≡◌, ℕ, List, drop}
use Rattle.std.specs.Str.{chars, IsUtf8, IsValidUpTo, IsErrorLen, valid_up_to, error_len}
use Rattle.std.specs.Str.Lossy.{utf8_error_len}
use Rattle.std.specs.declared.str.Utf8Error.{Utf8Error}
use Rattle.smol_str.specs.declared.value.convert.FromUtf8Fault.{FromUtf8Fault}
use Rattle.smol_str.specs.declared.value.convert.FromUtf8Fault.TheVariants.{NotUtf8, OutOfMemory}
use Rattle.smol_str.specs.Text.{IsResident}

-- the fault of these bytes and of no others, as std's `str::from_utf8` reports it
pub record IsUtf8FaultOf (bytes : List ℕ) (e : Utf8Error) : Type 0 where
  -- so many bytes are the longest front that is UTF-8
  pub valid : IsValidUpTo bytes (valid_up_to e)
  -- so many bytes after them are not a character, or the bytes end within one
  pub bounded : IsErrorLen bytes (valid_up_to e) (error_len e)
  pub fault : error_len e ≡ utf8_error_len (drop (valid_up_to e) bytes)

-- the bytes are not UTF-8, and the fault is theirs; or they are UTF-8, of a text that is not resident
abbrev pub AfterFromUtf8Fault : List ℕ → FromUtf8Fault → Type 0
AfterFromUtf8Fault bytes (NotUtf8 e) = (¬ (IsUtf8 bytes)) × IsUtf8FaultOf bytes e
AfterFromUtf8Fault bytes OutOfMemory = IsUtf8 bytes × (¬ (IsResident (chars bytes)))
