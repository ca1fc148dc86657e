-- What is known after the wire form was written or read, and after each fault.
--     AfterEncodeFault      of a writer
--     AfterDecodeFault      of a reader
--     NeedsMemory           the whole form came, of a text that is not resident
--     GaveTooFew            the reader gave bytes that end early
--     GaveSomeOfBody        it gave the size and some of the body
--     AfterLimitedFault     of a reader of values that have a greatest size
--     AfterFromWireFault    of bytes
-- A reader gives a size first, and then a body of this size.
--     HasReadSize           the size came
--     HasReadBody           the body came, and is the text of a value
--     HasReadLarge          the body came, and is a text that is not resident
--     AfterFillFault        a buffer was not filled
--     AfterBodyFault        it did not, or is not UTF-8, or memory was refused
-- And what other calls' faults become.
--     of_read_fault         the fault of a reader that was read by chunks
--     of_utf8_fault         the fault of bytes that were to be a value's text
use Rattle.std.specs.Prelude.{◌≡◌, ℕ, ◌+◌, ◌<◌, ◌≤◌, ◌^◌, List, length, take, Option, IfSome, ⊤}
use Rattle.std.specs.Int.{to_le_bytes, w32}
use Rattle.std.specs.Str.{chars, IsUtf8}
use Rattle.std.specs.declared.str.Utf8Error.{Utf8Error}
use Rattle.std.specs.Io.KnownBytes.{Consumes, Keeps}
use Rattle.smol_str.specs.declared.borsh.fault.EncodeFault.{EncodeFault}
use Rattle.smol_str.specs.declared.borsh.fault.EncodeFault.TheVariants.{TooLong, Io as WriteFailed}
use Rattle.smol_str.specs.declared.borsh.fault.DecodeFault.{DecodeFault}
use Rattle.smol_str.specs.declared.borsh.fault.DecodeFault.TheVariants.{Ended, NotUtf8, OutOfMemory, Io as ReadFailed}
use Rattle.smol_str.specs.declared.borsh.fault.LimitedFault.{LimitedFault}
use Rattle.smol_str.specs.declared.borsh.fault.LimitedFault.TheVariants.{TooLong as AboveLimit, Decode}
use Rattle.smol_str.specs.declared.stream.ReadFault.{ReadFault}
use Rattle.smol_str.specs.declared.stream.ReadFault.TheVariants.{OutOfMemory as NoMemoryToRead, Io as ReaderFailed}
use Rattle.smol_str.specs.declared.value.convert.FromUtf8Fault.{FromUtf8Fault}
use Rattle.smol_str.specs.declared.value.convert.FromUtf8Fault.TheVariants.{NotUtf8 as BytesNotUtf8, OutOfMemory as NoMemoryForText}
use Rattle.smol_str.specs.declared.buffer.TheConstants.{INLINE_CAP}
use Rattle.smol_str.specs.declared.borsh.TheConstants.{STACK_BODY}
use Rattle.smol_str.specs.Text.{IsResident}
use Rattle.smol_str.specs.Meaning.{Meaning, IsValueOf}
use Rattle.smol_str.specs.Faults.{IsUtf8FaultOf}
use Rattle.smol_str.specs.Stream.{AppendsBeginning, GaveAll, GaveAllBelow, GaveBelow, GaveUpTo}
use Rattle.smol_str.specs.Wire.{prefix_size, HasEndedEarly, body}

abbrev pub AfterEncodeFault : List ℕ → Type 0 → Option (List ℕ) → Option (List ℕ) → EncodeFault → Type 0
-- the value has no wire form, and nothing was written
AfterEncodeFault form HasForm held holds TooLong = (¬ HasForm) × Keeps held holds
-- a proper prefix of the wire form was written
AfterEncodeFault form HasForm held holds (WriteFailed e) = HasForm × AppendsBeginning held holds form

-- the body is not UTF-8, and the fault is its own
abbrev pub IsRefusedBody : List ℕ → Utf8Error → Type 0
IsRefusedBody bytes e = (¬ (IsUtf8 bytes)) × IsUtf8FaultOf bytes e

-- the reader gave bytes that end early and of which P holds; it may have more, but it never gave the whole form
abbrev pub GaveTooFew : Option (List ℕ) → Option (List ℕ) → (List ℕ → Type 0) → Type 0
GaveTooFew input left P = (bytes : List ℕ) × HasEndedEarly bytes × P bytes × Consumes input left bytes

-- the reader gave the size and some of the body, and no more than the whole body
abbrev pub GaveSomeOfBody : Option (List ℕ) → Option (List ℕ) → Type 0
GaveSomeOfBody input left =
    (bytes : List ℕ) × (4 < length bytes) × (length bytes ≤ 4 + prefix_size bytes) × Consumes input left bytes

-- the whole form is there, and its body is a text that is not resident
abbrev pub NeedsMemory : List ℕ → Type 0
NeedsMemory b = (¬ (HasEndedEarly b)) × IsUtf8 (body b) × (¬ (IsResident (chars (body b))))

abbrev pub AfterDecodeFault : Option (List ℕ) → Option (List ℕ) → DecodeFault → Type 0
-- the bytes end early, and all were consumed
AfterDecodeFault input left Ended = IfSome input HasEndedEarly × GaveAll input left
-- the form is whole and was consumed, and its body is not UTF-8
AfterDecodeFault input left (NotUtf8 e) =
    IfSome input (λ b. (¬ (HasEndedEarly b)) × IsRefusedBody (body b) e × Consumes input left (take (4 + prefix_size b) b))
-- the stated size is above INLINE_CAP, and some of the body was consumed; if it is at most STACK_BODY, the form is whole,
-- needs memory and was consumed
AfterDecodeFault input left OutOfMemory =
    IfSome input (λ b. (4 ≤ length b) × (INLINE_CAP < prefix_size b) × (prefix_size b ≤ STACK_BODY →
    NeedsMemory b × Consumes input left (take (4 + prefix_size b) b))) × GaveSomeOfBody input left
-- less than the form was consumed
AfterDecodeFault input left (ReadFailed e) = GaveTooFew input left (λ bytes. ⊤)

-- the size, where all four bytes of it are there, is within the limit
abbrev pub StatesAtMost : ℕ → List ℕ → Type 0
StatesAtMost limit b = 4 ≤ length b → prefix_size b ≤ limit

abbrev pub AfterLimitedFault : ℕ → Option (List ℕ) → Option (List ℕ) → LimitedFault → Type 0
-- the prefix states a size above the limit, and nothing after it was consumed
AfterLimitedFault limit input left AboveLimit =
    IfSome input (λ b. (4 ≤ length b) × (limit < prefix_size b) × Consumes input left (take 4 b))
-- the bytes that the reader gave state no size above the limit
AfterLimitedFault limit input left (Decode (ReadFailed e)) = GaveTooFew input left (StatesAtMost limit)
-- as after reading without a limit, and the stated size is within it
AfterLimitedFault limit input left (Decode fault) =
    AfterDecodeFault input left fault × IfSome input (StatesAtMost limit)

abbrev pub AfterFromWireFault : List ℕ → DecodeFault → Type 0
AfterFromWireFault b Ended = HasEndedEarly b
-- the form is whole, and its body is not UTF-8
AfterFromWireFault b (NotUtf8 e) = (¬ (HasEndedEarly b)) × IsRefusedBody (body b) e
AfterFromWireFault b OutOfMemory = NeedsMemory b
-- there is no reader that could fail
AfterFromWireFault b (ReadFailed e) = ⊥

-- the reader gave four bytes, which state the size n
abbrev pub HasReadSize : Option (List ℕ) → Option (List ℕ) → ℕ → Type 0
HasReadSize input left n = (n < 2 ^ 32) × Consumes input left (to_le_bytes w32 n)

-- the reader gave n bytes, which are the value's text
pub record HasReadBody (input left : Option (List ℕ)) (n : ℕ) (v : Meaning) : Type 0 where
  pub body : List ℕ
  pub whole : length body ≡ n
  pub utf8 : IsUtf8 body
  pub bytes : Consumes input left body
  pub value : IsValueOf (chars body) v

-- the reader gave n bytes, which are not UTF-8
pub record HasReadNoText (input left : Option (List ℕ)) (n : ℕ) (e : Utf8Error) : Type 0 where
  pub body : List ℕ
  pub whole : length body ≡ n
  pub refused : IsRefusedBody body e
  pub bytes : Consumes input left body

-- the reader gave n bytes, which are a text that is not resident
pub record HasReadLarge (input left : Option (List ℕ)) (n : ℕ) : Type 0 where
  pub body : List ℕ
  pub whole : length body ≡ n
  pub utf8 : IsUtf8 body
  pub large : ¬ (IsResident (chars body))
  pub bytes : Consumes input left body

-- after a buffer of n bytes was not filled
abbrev pub AfterFillFault : Option (List ℕ) → Option (List ℕ) → ℕ → DecodeFault → Type 0
AfterFillFault input left n Ended = GaveAllBelow input left n
AfterFillFault input left n (ReadFailed e) = GaveBelow input left n
-- no other fault comes of it
AfterFillFault input left n fault = ⊥

-- after reading a body of n bytes
abbrev pub AfterBodyFault : Option (List ℕ) → Option (List ℕ) → ℕ → DecodeFault → Type 0
AfterBodyFault input left n Ended = GaveAllBelow input left n
AfterBodyFault input left n (NotUtf8 e) = HasReadNoText input left n e
-- the body is above INLINE_CAP, and some of it came; all of it if it is at most STACK_BODY
AfterBodyFault input left n OutOfMemory =
    (INLINE_CAP < n) × GaveUpTo input left n × (n ≤ STACK_BODY → HasReadLarge input left n)
-- the reader failed before the whole body had come
AfterBodyFault input left n (ReadFailed e) = GaveBelow input left n

abbrev pub of_read_fault : ReadFault → DecodeFault
of_read_fault NoMemoryToRead = OutOfMemory
of_read_fault (ReaderFailed e) = ReadFailed e

abbrev pub of_utf8_fault : FromUtf8Fault → DecodeFault
of_utf8_fault (BytesNotUtf8 e) = NotUtf8 e
of_utf8_fault NoMemoryForText = OutOfMemory
