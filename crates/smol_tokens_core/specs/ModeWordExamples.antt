-- What some words ask for, computed by the checker.
use Rattle.std.specs.Prelude.{◌≡◌, List, [], ◌∷◌, codes, Some, None, if◌then◌else◌, refl}
use Rattle.std.proofs.Common.{ap}
use Rattle.std.specs.Str.{bytes_eq}
use Rattle.std.specs.String.{string_bytes}
use Rattle.std.specs.declared.string.String.{String}
use Rattle.std.specs.declared.alloc.Global.{Global}
use Rattle.smol_tokens_core.specs.ModeWords.{asked_mode, mode_of_word}
use Rattle.smol_tokens_core.specs.declared.mode.Mode.TheVariants.{Show, Join, Lower, Upper, Replace, Tokens, Merge}

no_word : asked_mode [] ≡ Some Show
no_word = refl

show_word : mode_of_word (codes "show") ≡ Some Show
show_word = refl

join_word : mode_of_word (codes "join") ≡ Some Join
join_word = refl

lower_word : mode_of_word (codes "lower") ≡ Some Lower
lower_word = refl

upper_word : mode_of_word (codes "upper") ≡ Some Upper
upper_word = refl

tokens_word : mode_of_word (codes "tokens") ≡ Some Tokens
tokens_word = refl

merge_word : mode_of_word (codes "merge") ≡ Some Merge
merge_word = refl

-- `replace` wants two words more
replace_alone : mode_of_word (codes "replace") ≡ None
replace_alone = refl

other_word : mode_of_word (codes "nonsense") ≡ None
other_word = refl

-- after it come the text that is replaced, and then its replacement
replace_words : (word from to : String Global) → string_bytes word ≡ codes "replace"
    → asked_mode (word ∷ from ∷ to ∷ []) ≡ Some (Replace from to)
replace_words word from to is = ap (λ w. if bytes_eq w (codes "replace") then Some (Replace from to) else None) is

-- no other word has two behind it
other_words : (word from to : String Global) → string_bytes word ≡ codes "lower"
    → asked_mode (word ∷ from ∷ to ∷ []) ≡ None
other_words word from to is = ap (λ w. if bytes_eq w (codes "replace") then Some (Replace from to) else None) is

one_word : (word : String Global) → string_bytes word ≡ codes "upper" → asked_mode (word ∷ []) ≡ Some Upper
one_word word is = ap mode_of_word is

two_words : (word other : String Global) → asked_mode (word ∷ other ∷ []) ≡ None
two_words word other = refl

too_many_words : (word from to more : String Global) (words : List (String Global))
    → asked_mode (word ∷ from ∷ to ∷ more ∷ words) ≡ None
too_many_words word from to more words = refl
