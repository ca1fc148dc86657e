-- For the reports: the bytes of report lines and of count lines, one after another.
use Rattle.std.proofs.Common.{◌≡◌, String, Global, ℕ, ◌<◌, ◌^◌, List, [], ◌∷◌, ◌++◌, arith, rules, codes, encode_utf8_all}
use Rattle.std.specs.Fmt.{decimal}
use Rattle.std.specs.List.{flat_map}
use Rattle.std.proofs.lemmas.List.{append-nil}
use Rattle.std.proofs.lemmas.List.Concat.{flat_map-append}
use Rattle.std.proofs.lemmas.Str.{encodes-append, encodes-IsAscii}
use Rattle.std.proofs.lemmas.Fmt.{IsAscii-decimal, contents_after_writes}
use Rattle.std.specs.String.{string_bytes}
use Rattle.std.specs.Fmt.{WritesInCalls}
use Rattle.smol_str.specs.declared.value.place.Place.{Place}
use Rattle.smol_str.specs.Text.{size}
use Rattle.smol_str.specs.Meaning.{Meaning, IsValueOf}
use Rattle.smol_tokens_core.specs.Counts.{count_line}
use Rattle.smol_tokens_core.specs.Report.{place_word, report_line, value_line}

encodes-place_word : (place : Place) → encode_utf8_all (place_word place) ≡ place_word place
unfolding lib.Utf8.encode
encodes-place_word place = search rules

-- a report line, in bytes
pub encodes-report_line : (place : Place) (n : ℕ) (t : List ℕ) → n < 2 ^ 64
    → encode_utf8_all (report_line place n t)
    ≡ place_word place ++ (codes " " ++ (decimal n ++ (codes " " ++ (encode_utf8_all t ++ codes "\n"))))
unfolding lib.Utf8.encode
encodes-report_line place n t small =
    search (rules, encodes-append, encodes-place_word, encodes-IsAscii, IsAscii-decimal)

-- a count line, in bytes
pub encodes-count_line : (t : List ℕ) (n : ℕ) → n < 2 ^ 64
    → encode_utf8_all (count_line (t, n)) ≡ decimal n ++ (codes " " ++ (encode_utf8_all t ++ codes "\n"))
unfolding lib.Utf8.encode
encodes-count_line t n small = search (rules, encodes-append, encodes-IsAscii, IsAscii-decimal)

-- what was printed stands behind what was there
pub printed : (old new : String Global) (bytes : List ℕ) → WritesInCalls (λ s bs t. string_bytes t ≡ string_bytes s ++ bs) old bytes new
    → string_bytes new ≡ string_bytes old ++ bytes
printed old new bytes wrote = contents_after_writes _ string_bytes (λ s bs t is. is) old bytes new wrote

pub ruleset lines_in_bytes = (encodes-report_line, encodes-count_line, printed)

-- the report line of a value of the text
pub report_line-value : (t : List ℕ) (v : Meaning) → IsValueOf t v
    → report_line v.place (size v.text) v.text ≡ value_line t
report_line-value t v is = search rules

-- what is out, and one item's value_line after it
pub report-last : {A : Type 0} (f : A → List ℕ) (items : List A) (x : A) (out new : List ℕ)
    → out ≡ encode_utf8_all (flat_map f items) → new ≡ out ++ encode_utf8_all (f x)
    → new ≡ encode_utf8_all (flat_map f (items ++ x ∷ []))
report-last f items x out new so_far is = search (rules, arith, flat_map-append, append-nil, encodes-append)
