-- What a value means.
--     Meaning                  a text, and the place where the value keeps it
--     IsValueOf t v            the value has the text t, in the place of that text
--     IsPrintOf output v       the value has what was printed as its text, where the type says what it prints
--     texts values             the texts of values
--     AreValuesOf ts values    the values have the texts ts, each in the place of its text
--     pair_texts pairs         the texts of pairs of values, as of keys and their values
--     ArePairsOf ts pairs      the same of pairs
use Rattle.std.specs.Prelude.{◌≡◌, ℕ, List, map, All, Option, IfSome, encode_utf8_all}
use Rattle.std.specs.Str.{chars}
use Rattle.smol_str.specs.declared.value.place.Place.{Place}
use Rattle.smol_str.specs.Text.{place_of}

-- a text, and the place where the value keeps it
pub record Meaning : Type 0 where
  pub text : List ℕ
  pub place : Place

-- the value has this text, in the place that follows from the text
pub record IsValueOf (t : List ℕ) (v : Meaning) : Type 0 where
  pub text : v.text ≡ t
  pub place : v.place ≡ place_of t

-- the value has what was printed as its text, said in characters and in bytes, where the type says what it prints; and it
-- lies in the place of its text anyway
pub record IsPrintOf (output : Option (List ℕ)) (v : Meaning) : Type 0 where
  pub text : IfSome output (λ bytes. IsValueOf (chars bytes) v)
  pub bytes : IfSome output (λ bytes. encode_utf8_all v.text ≡ bytes)
  pub place : v.place ≡ place_of v.text

abbrev pub texts : List Meaning → List (List ℕ)
texts values = map (λ value. value.text) values

-- values of these texts, one for each, as `IsValueOf` says of one
pub record AreValuesOf (ts : List (List ℕ)) (values : List Meaning) : Type 0 where
  pub text : texts values ≡ ts
  pub place : All (λ v. v.place ≡ place_of v.text) values

abbrev pub pair_texts : List (Meaning × Meaning) → List (List ℕ × List ℕ)
pair_texts pairs = map (λ pair. (pair.0.text, pair.1.text)) pairs

-- pairs of values of these texts, one for each
pub record ArePairsOf (ts : List (List ℕ × List ℕ)) (pairs : List (Meaning × Meaning)) : Type 0 where
  pub text : pair_texts pairs ≡ ts
  pub place : All (λ pair. (pair.0.place ≡ place_of pair.0.text) × (pair.1.place ≡ place_of pair.1.text)) pairs
