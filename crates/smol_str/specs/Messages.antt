-- What a fault prints: a sentence of ours, or what the error prints that it holds. What errors print is passed in, as
-- their own `Display` has it: of `Utf8Error`, `io::Error` and the error of `serde_json` that is None, so nothing is known.
use Rattle.std.specs.Prelude.{ℕ, List, Option, Some, codes}
use Rattle.std.specs.declared.str.Utf8Error.{Utf8Error}
use Rattle.std.specs.declared.io.Error.{Error as IoError}
use Rattle.serde_json.specs.declared.error.Error.{Error as JsonError}
use Rattle.smol_str.specs.declared.value.convert.FromUtf8Fault.{FromUtf8Fault}
use Rattle.smol_str.specs.declared.value.convert.FromUtf8Fault.TheVariants as utf8
use Rattle.smol_str.specs.declared.json_string.fault.JsonFault.{JsonFault}
use Rattle.smol_str.specs.declared.json_string.fault.JsonFault.TheVariants as json
use Rattle.smol_str.specs.declared.stream.ReadFault.{ReadFault}
use Rattle.smol_str.specs.declared.stream.ReadFault.TheVariants as stream
use Rattle.smol_str.specs.declared.borsh.fault.EncodeFault.{EncodeFault}
use Rattle.smol_str.specs.declared.borsh.fault.EncodeFault.TheVariants as encode
use Rattle.smol_str.specs.declared.borsh.fault.DecodeFault.{DecodeFault}
use Rattle.smol_str.specs.declared.borsh.fault.DecodeFault.TheVariants as decode
use Rattle.smol_str.specs.declared.borsh.fault.LimitedFault.{LimitedFault}
use Rattle.smol_str.specs.declared.borsh.fault.LimitedFault.TheVariants as limited

abbrev pub format_message : List ℕ
format_message = codes "formatting failed or memory ran out"

abbrev pub out_of_memory_message : Option (List ℕ)
out_of_memory_message = Some (codes "memory allocation failed")

abbrev pub utf8_fault_message : (Utf8Error → Option (List ℕ)) → FromUtf8Fault → Option (List ℕ)
utf8_fault_message printed (utf8.NotUtf8 e) = printed e
utf8_fault_message printed utf8.OutOfMemory = out_of_memory_message

abbrev pub json_fault_message : (JsonError → Option (List ℕ)) → JsonFault → Option (List ℕ)
json_fault_message printed json.NotString = Some (codes "the JSON value is not a string")
json_fault_message printed (json.Json e) = printed e
json_fault_message printed json.OutOfMemory = out_of_memory_message

abbrev pub read_fault_message : (IoError → Option (List ℕ)) → ReadFault → Option (List ℕ)
read_fault_message printed stream.OutOfMemory = out_of_memory_message
read_fault_message printed (stream.Io e) = printed e

abbrev pub encode_fault_message : (IoError → Option (List ℕ)) → EncodeFault → Option (List ℕ)
encode_fault_message printed encode.TooLong = Some (codes "the text has more than 4294967295 bytes")
encode_fault_message printed (encode.Io e) = printed e

abbrev pub decode_fault_message : (Utf8Error → Option (List ℕ)) → (IoError → Option (List ℕ)) → DecodeFault → Option (List ℕ)
decode_fault_message utf8_printed io_printed decode.Ended = Some (codes "the bytes end before the text does")
decode_fault_message utf8_printed io_printed (decode.NotUtf8 e) = utf8_printed e
decode_fault_message utf8_printed io_printed decode.OutOfMemory = out_of_memory_message
decode_fault_message utf8_printed io_printed (decode.Io e) = io_printed e

abbrev pub limited_fault_message : (DecodeFault → Option (List ℕ)) → LimitedFault → Option (List ℕ)
limited_fault_message printed limited.TooLong = Some (codes "the stated length exceeds the limit")
limited_fault_message printed (limited.Decode fault) = printed fault
