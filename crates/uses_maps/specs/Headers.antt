-- What a header store means: names in lower case, and their values.
--     header_of name store    the value of a name
use Rattle.std.specs.Prelude.{ℕ, List, Option, bytes_eq}
use Rattle.std.specs.Map.{lookup}
use Rattle.smol_str.specs.Meaning.{Meaning}

-- that of the pair whose name has this text
abbrev pub header_of : List ℕ → List (Meaning × Meaning) → Option Meaning
header_of name store = lookup (λ key. bytes_eq name key.text) store
