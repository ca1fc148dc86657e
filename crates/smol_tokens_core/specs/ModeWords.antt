-- What the words of a command line ask for.
use Rattle.std.specs.Prelude.{ℕ, List, [], ◌∷◌, codes, Option, Some, None, if◌then◌else◌}
use Rattle.std.specs.Str.{bytes_eq}
use Rattle.std.specs.String.{string_bytes}
use Rattle.std.specs.declared.string.String.{String}
use Rattle.std.specs.declared.alloc.Global.{Global}
use Rattle.smol_tokens_core.specs.declared.mode.Mode.{Mode}
use Rattle.smol_tokens_core.specs.declared.mode.Mode.TheVariants.{Show, Join, Lower, Upper, Replace, Tokens, Merge}

-- one word, by its bytes
abbrev pub mode_of_word : List ℕ → Option Mode
mode_of_word word =
    if bytes_eq word (codes "show") then Some Show
    else (if bytes_eq word (codes "join") then Some Join
    else (if bytes_eq word (codes "lower") then Some Lower
    else (if bytes_eq word (codes "upper") then Some Upper
    else (if bytes_eq word (codes "tokens") then Some Tokens
    else (if bytes_eq word (codes "merge") then Some Merge else None)))))

-- the words after the program's name; no word at all asks for `show`
abbrev pub asked_mode : List (String Global) → Option Mode
asked_mode [] = Some Show
asked_mode (word ∷ []) = mode_of_word (string_bytes word)
asked_mode (word ∷ other ∷ []) = None
asked_mode (word ∷ from ∷ to ∷ []) =
    if bytes_eq (string_bytes word) (codes "replace") then Some (Replace from to) else None
asked_mode (word ∷ other ∷ another ∷ yet ∷ more) = None
