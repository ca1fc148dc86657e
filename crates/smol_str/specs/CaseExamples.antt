-- Case of small texts, computed by the checker. 223 is ß, 916 is Δ, 233 is é.
use Rattle.std.specs.Prelude.{◌≡◌, [], ◌∷◌, ◌++◌, codes, refl}
use Rattle.std.specs.Char.Unicode.Rows.{by_runs, by_strings, in_ranges}
use Rattle.std.specs.Char.Unicode.ToLowercase.{to_lowercase, lowercase_runs, lowercase_strings}
use Rattle.std.specs.Char.Unicode.ToUppercase.{to_uppercase, uppercase_runs, uppercase_strings}
use Rattle.std.specs.Char.Unicode.Cased.{is_cased, cased_ranges}
use Rattle.std.specs.Char.Unicode.CaseIgnorable.{is_case_ignorable, case_ignorable_ranges}
use Rattle.smol_str.specs.declared.bytes.ascii.AsciiCase.TheVariants.{Lower, Upper}
use Rattle.smol_str.specs.Case.{lower, upper, front, lowercased, uppercased, converted, full_case, mapped}

lower_mixed : lower (97 ∷ 223 ∷ 916 ∷ 67 ∷ []) ≡ 97 ∷ 223 ∷ 916 ∷ 99 ∷ []
lower_mixed = refl

upper_mixed : upper (97 ∷ 223 ∷ 916 ∷ 67 ∷ []) ≡ 65 ∷ 223 ∷ 916 ∷ 67 ∷ []
upper_mixed = refl

-- the characters next to the letters stay
lower_ends : lower (codes "@AZ[") ≡ codes "@az["
lower_ends = refl

upper_ends : upper (codes "`az{") ≡ codes "`AZ{"
upper_ends = refl

front_mixed : front (codes "AB" ++ 233 ∷ codes "C") ≡ codes "AB"
front_mixed = refl

-- 7F hexadecimal is the last character of ASCII
front_last : front (127 ∷ 128 ∷ []) ≡ 127 ∷ []
front_last = refl

front_whole : front (codes "AB") ≡ codes "AB"
front_whole = refl

front_none : front (233 ∷ codes "AB") ≡ []
front_none = refl

-- a capital sigma at the end of a word has a small letter of its own
lowercased_words : lowercased (codes "ΟΔΟΣ Σ") ≡ codes "οδος σ"
unfolding by_runs by_strings in_ranges to_lowercase lowercase_runs lowercase_strings is_cased cased_ranges is_case_ignorable case_ignorable_ranges
lowercased_words = refl

-- one character may become two
lowercased_more : lowercased (codes "İ") ≡ 0x69 ∷ 0x307 ∷ []
unfolding by_runs by_strings in_ranges to_lowercase lowercase_runs lowercase_strings is_cased cased_ranges is_case_ignorable case_ignorable_ranges
lowercased_more = refl

uppercased_more : uppercased (codes "aß") ≡ codes "ASS"
unfolding by_runs by_strings to_uppercase uppercase_runs uppercase_strings
uppercased_more = refl

converted_lower : converted Lower (codes "AÉß") ≡ codes "aÉß"
converted_lower = refl

converted_upper : converted Upper (codes "aéß") ≡ codes "Aéß"
converted_upper = refl

full_lower : full_case Lower (codes "ÉΣ") ≡ codes "éς"
unfolding by_runs by_strings in_ranges to_lowercase lowercase_runs lowercase_strings is_cased cased_ranges is_case_ignorable case_ignorable_ranges
full_lower = refl

full_upper : full_case Upper (codes "éß") ≡ codes "ÉSS"
unfolding by_runs by_strings to_uppercase uppercase_runs uppercase_strings
full_upper = refl

-- character by character every capital sigma becomes the same small one
mapped_lower : mapped Lower (codes "ÉΣ") ≡ codes "éσ"
unfolding by_runs by_strings to_lowercase lowercase_runs lowercase_strings
mapped_lower = refl

mapped_upper : mapped Upper (codes "éß") ≡ codes "ÉSS"
unfolding by_runs by_strings to_uppercase uppercase_runs uppercase_strings
mapped_upper = refl
