-- The fields of a message: names in lower case and their values, in the order of the names' first fields.
--     field_text field    a line: the name, a colon, a space, the value
--     merged old value    what a name has once a value is added to what it had
use Rattle.std.specs.Prelude.{ℕ, List, ◌++◌, Option, None, Some, chars, codes}

abbrev pub field_text : List ℕ × List ℕ → List ℕ
field_text field = field.0 ++ (chars (codes ": ") ++ (field.1 ++ chars (codes "\r\n")))

-- behind a comma
abbrev pub merged : Option (List ℕ) → List ℕ → List ℕ
merged None value = value
merged (Some old) value = old ++ (chars (codes ", ") ++ value)
