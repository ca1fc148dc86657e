-- The JSON value of a text, and when each fault comes.
--     json_value t      the JSON string of the text t
--     IsJsonText b t    the bytes b are a JSON text, which reads as the string of the text t
--     IsJsonOf d v      d is the JSON value of v's text, and v keeps it in its place
--     IsOther d         d is another JSON value than a string
--     compact_text d    the compact JSON text of d, which is `serde_json`'s word, passed on
-- JSON values, and which text reads as which, are those of `serde_json`.
use Rattle.std.specs.Prelude.{◌≡◌, ⊤, ℕ, ◌<◌, List, length, Some, None, encode_utf8_all}
use Rattle.serde_json.specs.Data as json
use Rattle.serde_json.specs.Read.{read}
pub use Rattle.serde_json.specs.Written.{compact_text}
use Rattle.smol_str.specs.declared.json_string.fault.JsonFault.{JsonFault}
use Rattle.smol_str.specs.declared.json_string.fault.JsonFault.TheVariants.{NotString, Json, OutOfMemory}
use Rattle.smol_str.specs.Text.{IsResident, place_of}
use Rattle.smol_str.specs.Meaning.{Meaning}

-- the string value with that text
abbrev pub json_value : List ℕ → json.Data
json_value t = json.string (encode_utf8_all t)

-- a JSON text of t: its string, with white space around it at the most
abbrev pub IsJsonText : List ℕ → List ℕ → Type 0
IsJsonText b t = read b ≡ Some (json_value t)

-- a value that was made of a JSON value
pub record IsJsonOf (d : json.Data) (v : Meaning) : Type 0 where
  pub text : d ≡ json_value v.text
  pub place : v.place ≡ place_of v.text

-- null, a truth value, a number, a list or an object
abbrev pub IsOther : json.Data → Type 0
IsOther (json.string bytes) = ⊥
IsOther _ = ⊤

-- of a JSON value: it is not a string; or it is the string of a text, and no text of which it is the string is resident
abbrev pub AfterValueFault : json.Data → JsonFault → Type 0
AfterValueFault d NotString = IsOther d
AfterValueFault d (Json e) = ⊥
AfterValueFault d OutOfMemory =
    ((t : List ℕ) × (d ≡ json_value t)) × ((t : List ℕ) → d ≡ json_value t → ¬ (IsResident t))

-- of the bytes of a text: they read as another value than a string, or as none; out of memory: there are bytes, whatever
-- they read as, since serde_json takes memory before it reads the first
abbrev pub AfterJsonFault : List ℕ → JsonFault → Type 0
AfterJsonFault bytes NotString = (d : json.Data) × (read bytes ≡ Some d) × IsOther d
AfterJsonFault bytes (Json e) = read bytes ≡ None
AfterJsonFault bytes OutOfMemory = 0 < length bytes
