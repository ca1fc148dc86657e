-- A text in a format of serde's.
use Rattle.std.specs.Prelude.{ℕ, List, encode_utf8_all}
use Rattle.serde.specs.Event.{Event, text}
use Rattle.serde.specs.Steps.{Gives}
use Rattle.serde.specs.declared.deserializer.Deserializer.{Deserializer}

-- one step read the text t and nothing else, where `gives` says what a step of the format reads
abbrev pub HasReadText : {F E M : Type 0} → (F → List ℕ → Event → F → Type 0)
    → Deserializer F E M → List ℕ → Deserializer F E M → Type 0
HasReadText gives old t new = Gives gives old (text (encode_utf8_all t)) new
