-- Settings: pairs of a key and a value, both texts, in the order of the keys' first lines.
--     setting line          what a line sets: its key in lower case, its value, both without the blanks round them
--     settings lines        what lines set, where a later line of a key takes the place of an earlier one
--     last_value k lines    the value of the last line that sets the key
use Rattle.std.specs.Prelude.{ℕ, Bool, ◌==◌, List, [], ◌∷◌, length, Option, Some, None, nat_lt, bytes_eq, fold, if◌then◌else◌}
use Rattle.std.specs.List.{position_or_len, before_first, after_first}
use Rattle.std.specs.Str.{chars, trim}
use Rattle.smol_str.specs.Keys.{with_entry}
use Rattle.smol_str.specs.Case.{lower}

abbrev pub is_equals : ℕ → Bool
is_equals b = b == 61

-- of the bytes of a line
abbrev pub setting : List ℕ → Option (List ℕ × List ℕ)
setting line =
    if nat_lt (position_or_len is_equals line) (length line)
    then Some (lower (chars (trim (before_first is_equals line))), chars (trim (after_first is_equals line)))
    else None

-- a key that is there keeps its place and takes the value, and a new key goes last
abbrev pub with_setting : List (List ℕ × List ℕ) → Option (List ℕ × List ℕ) → List (List ℕ × List ℕ)
with_setting pairs None = pairs
with_setting pairs (Some p) = with_entry pairs p.0 p.1

abbrev pub settings : List (List ℕ) → List (List ℕ × List ℕ)
settings lines = fold (λ pairs line. with_setting pairs (setting line)) [] lines

abbrev pub value_in : List ℕ → Option (List ℕ × List ℕ) → Option (List ℕ)
value_in key None = None
value_in key (Some p) = if bytes_eq key p.0 then Some p.1 else None

abbrev pub or_else : Option (List ℕ) → Option (List ℕ) → Option (List ℕ)
or_else None other = other
or_else (Some v) other = Some v

abbrev pub last_value : List ℕ → List (List ℕ) → Option (List ℕ)
last_value key [] = None
last_value key (line ∷ lines) = or_else (last_value key lines) (value_in key (setting line))
