-- For the reader of count lines: which bytes are the decimal of a number, and where a count line is cut.
use Rattle.std.proofs.Common.{◌≡◌, ◌≢◌, ℕ, ◌<◌, ◌^◌, List, [], ◌∷◌, ◌++◌, Result, Ok, Err, IsUtf8, get_or, length, zero, suc, refl, ap, sym, ◌∙◌, arith, rules, append-nil, encode_utf8_all}
use Rattle.std.specs.Prelude.{All}
use Rattle.std.specs.Fmt.{decimal}
use Rattle.std.specs.Option.{MatchOption}
use Rattle.std.specs.Result.{result_ok}
use Rattle.std.specs.Str.{chars}
use Rattle.std.specs.Str.Parse.{AllDigits, ParsesUnsigned}
use Rattle.std.proofs.lemmas.Fmt.{decimal_nonempty, first_decimal, decimal_digit, decimal-digits_value, parse-decimal, IsAscii-decimal}
use Rattle.std.proofs.lemmas.List.Elements.{All-nil, All-cons}
use Rattle.std.proofs.lemmas.Str.{encodes-IsAscii, encodes-chars, chars-IsAscii}
use Rattle.std.proofs.lemmas.Str.Parse.{numerals_by_value, tells_digits, parse_plain}
use Rattle.smol_str.specs.Cut.{IsFirstAfter}
use Rattle.smol_tokens_core.specs.Counts.{IsEntry, BeginsWith}
use Rattle.smol_tokens_core.proofs.FirstLineLemmas.{without}
use Rattle.smol_tokens_core.proofs.CountLemmas.{decimal-other, cut_once, line}

-- a decimal begins with no plus, and with a zero only if that is all
abbrev pub IsPlain : List ℕ → Type 0
IsPlain bs = (0 < length bs) × (get_or bs 0 0 ≢ 43) × (get_or bs 0 0 ≡ 48 → length bs ≡ 1)

pub decimal-plain : (n : ℕ) → n < 2 ^ 64 → IsPlain (decimal n)
decimal-plain zero below = rw (decimal_digit 0 (omega arith)) (omega arith, λ e. omega arith, λ e. refl)
decimal-plain (suc n) below =
    let first = first_decimal (suc n) (omega arith) below in
    (decimal_nonempty (suc n) below, λ e. omega (arith, first), λ e. absurd (omega (arith, first)))

-- a decimal is the same in bytes and in characters
pub decimal-bytes : (bs : List ℕ) (n : ℕ) → IsUtf8 bs → n < 2 ^ 64 → chars bs ≡ decimal n → bs ≡ decimal n
decimal-bytes bs n u below is =
    sym (encodes-chars bs u) ∙ ap encode_utf8_all is ∙ encodes-IsAscii (decimal n) (IsAscii-decimal n below)

pub reads_plain : {E : Type 0} (bs : List ℕ) (r : Result ℕ E) → IsUtf8 bs → ParsesUnsigned 64 10 bs r → IsPlain bs
    → MatchOption (result_ok r) ((n : ℕ) → n < 2 ^ 64 → chars bs ≢ decimal n) (λ n. chars bs ≡ decimal n)
reads_plain {E} bs (Ok x) u h plain =
    let own = numerals_by_value (AllDigits 10) tells_digits in
    let read = parse_plain own {E = E} 64 bs (Ok x) h plain.1 in
    let is : bs ≡ decimal x = sym (ap decimal read.1 ∙ decimal-digits_value own bs read.0.0 read.0.1 plain.2 read.0.2) in
    let below : x < 2 ^ 64 = rw read.1 read.0.2 in ap chars is ∙ chars-IsAscii (decimal x) (IsAscii-decimal x below)
reads_plain bs (Err e) u h plain =
    λ n below is. absurd (cc (parse-decimal 64 n bs (Err e) below below (decimal-bytes bs n u below is) h))

pub chars-space : chars (32 ∷ []) ≡ 32 ∷ []
chars-space = chars-IsAscii (32 ∷ []) (search (rules, arith))

before : (c : ℕ) (q : List ℕ) → IsFirstAfter (c ∷ []) q → All (λ d. d ≢ c) q
before c q first = without c q (rw append-nil at first)

module _ (t digits behind : List ℕ) (first : IsFirstAfter (32 ∷ []) digits) (is : t ≡ digits ++ (32 ∷ [] ++ behind)) where
  -- a count line is cut at its first space, behind its count
  pub parts : (e : List ℕ × ℕ) (rest : List ℕ) → BeginsWith t (e ∷ []) rest
      → (digits ≡ decimal e.1) × (behind ≡ e.0 ++ 10 ∷ rest)
  parts e rest begins =
      cut_once 32 digits (decimal e.1) behind (e.0 ++ 10 ∷ rest) (before 32 digits first)
      (decimal-other 32 e.1 (omega arith) (begins.1 0 e (omega arith)).1) (sym is ∙ begins.0 ∙ line e rest)

  pub begins-line : (token after : List ℕ) (n : ℕ) → digits ≡ decimal n → n < 2 ^ 64
      → IsFirstAfter (10 ∷ []) token → behind ≡ token ++ (10 ∷ [] ++ after) → BeginsWith t ((token, n) ∷ []) after
  begins-line token after n reads below end rest =
      let whole : t ≡ decimal n ++ 32 ∷ (token ++ 10 ∷ after) = cc in
      (whole ∙ sym (line (token, n) after), All-cons IsEntry (token, n) [] (before 10 token end, below) (All-nil IsEntry))
