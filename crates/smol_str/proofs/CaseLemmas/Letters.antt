-- For `str_ext::case_ranges`: each letter of a range is mapped as Unicode's tables map it, seen one by one.
use Rattle.smol_str.proofs.Common.{list_all, ◌≡◌, ℕ, ◌+◌, ◌-◌, ◌<◌, ◌≤◌, List, [], ◌∷◌, Bool, true, ◌&&◌, zero, suc, refl, arith, and_parts, bytes_eq, ap, ◌∙◌, nat_tests, nat_le, false, not, cond, sym}
use Rattle.std.specs.Prelude.{◌||◌, nat_lt}
use Rattle.std.proofs.lemmas.Slice.Eq.{bytes_eq-Decides}
use Rattle.std.specs.Char.Unicode.Cased.{is_cased, cased_ranges}
use Rattle.std.specs.Char.Unicode.CaseIgnorable.{is_case_ignorable, case_ignorable_ranges}
use Rattle.std.specs.Char.Unicode.Rows.{Row, by_runs, by_strings, case_mapping, in_ranges}
use Rattle.std.specs.Char.Unicode.ToLowercase.{to_lowercase, lowercase_runs, lowercase_strings}
use Rattle.std.specs.Char.Unicode.ToUppercase.{to_uppercase, uppercase_runs, uppercase_strings}

-- the test holds of n numbers from a on
abbrev pub all_from : (ℕ → Bool) → ℕ → ℕ → Bool
all_from test a zero = true
all_from test a (suc n) = test (a + n) && all_from test a n

all_from-at : (test : ℕ → Bool) (a n c : ℕ) → all_from test a n ≡ true → a ≤ c → c < a + n → test c ≡ true
all_from-at test a zero c ok least most = absurd (omega arith)
all_from-at test a (suc n) c ok least most = grind (arith, and_parts, all_from-at test a n c)

-- a range: its first character, how many it has, and what each is moved to
pub record Range : Type 0 where
  pub first : ℕ
  pub count : ℕ
  pub moved : ℕ → ℕ

-- f maps each character of the range as the range says
abbrev pub Moves : (ℕ → List ℕ) → Range → Type 0
Moves f r = (c : ℕ) → r.first ≤ c → c < r.first + r.count → f c ≡ r.moved c ∷ []

abbrev pub AllMove : (ℕ → List ℕ) → List Range → Type 0
AllMove f [] = Unit {0}
AllMove f (r ∷ rs) = Moves f r × AllMove f rs

abbrev pub moves : (ℕ → List ℕ) → Range → Bool
moves f r = all_from (λ c. bytes_eq (f c) (r.moved c ∷ [])) r.first r.count

AllMove-computed : (f : ℕ → List ℕ) (rs : List Range) → list_all (moves f) rs ≡ true → AllMove f rs
AllMove-computed f [] ok = tt
AllMove-computed f (r ∷ rs) ok =
    let parts = and_parts (moves f r) (list_all (moves f) rs) ok in
    let same = all_from-at (λ x. bytes_eq (f x) (r.moved x ∷ [])) r.first r.count in
    let same_at = λ (c : ℕ). (bytes_eq-Decides (f c) (r.moved c ∷ [])).0 in
    (λ c least most. same_at c (same c parts.0 least most), AllMove-computed f rs parts.1)

-- n characters from a on, which stay, or move up or down by k
abbrev pub stay : ℕ → ℕ → Range
stay a n = record { first = a; count = n; moved = λ c. c }

abbrev pub up : ℕ → ℕ → ℕ → Range
up k a n = record { first = a; count = n; moved = λ c. c + k }

abbrev pub down : ℕ → ℕ → ℕ → Range
down k a n = record { first = a; count = n; moved = λ c. c - k }

abbrev pub lowercase_ranges : List Range
lowercase_ranges =
    stay 0x0 65 ∷ up 32 0x41 26 ∷ stay 0x5b 101 ∷ up 32 0xc0 23 ∷ up 32 0xd8 7 ∷ stay 0xdf 33 ∷ up 32 0x391 17
    ∷ up 32 0x3a3 9 ∷ stay 0x3ac 35 ∷ up 80 0x400 16 ∷ up 32 0x410 32 ∷ stay 0x430 48 ∷ up 48 0x531 38
    ∷ stay 0x561 38 ∷ []

pub lowercase_moves : AllMove to_lowercase lowercase_ranges
unfolding by_runs by_strings to_lowercase lowercase_runs lowercase_strings
lowercase_moves = AllMove-computed to_lowercase lowercase_ranges refl

abbrev pub uppercase_ranges : List Range
uppercase_ranges =
    stay 0x0 97 ∷ down 32 0x61 26 ∷ stay 0x7b 58 ∷ stay 0xc0 31 ∷ down 32 0xe0 23 ∷ down 32 0xf8 7 ∷ stay 0x391 27
    ∷ down 32 0x3b1 17 ∷ down 32 0x3c3 9 ∷ stay 0x400 48 ∷ down 32 0x430 32 ∷ down 80 0x450 16 ∷ stay 0x531 38
    ∷ down 48 0x561 38 ∷ []

pub uppercase_moves : AllMove to_uppercase uppercase_ranges
unfolding by_runs by_strings to_uppercase uppercase_runs uppercase_strings
uppercase_moves = AllMove-computed to_uppercase uppercase_ranges refl

-- one that becomes two
pub uppercase-sharp_s : (c : ℕ) → c ≡ 0xdf → to_uppercase c ≡ 0x53 ∷ 0x53 ∷ []
unfolding by_strings to_uppercase uppercase_strings
uppercase-sharp_s c e = rw e refl

-- ---- ranges without case: no row of the tables lies there

-- no run has one of n characters from a on
abbrev clear_of_runs : List Row → ℕ → ℕ → Bool
clear_of_runs runs a n = list_all (λ run. nat_lt run.1 a || nat_le (a + n) run.0) runs

abbrev clear_of_strings : List Row → ℕ → ℕ → Bool
clear_of_strings rows a n = list_all (λ row. nat_lt row.0 a || nat_le (a + n) row.0) rows

runs-clear : (runs : List Row) (a n c : ℕ) → clear_of_runs runs a n ≡ true → a ≤ c → c < a + n → by_runs runs c ≡ c
unfolding by_runs
runs-clear [] a n c ok least most = refl
runs-clear (run ∷ runs) a n c ok least most = grind (arith, nat_tests, and_parts, runs-clear runs a n c)

strings-clear : (default : List ℕ) (rows : List Row) (a n c : ℕ) → clear_of_strings rows a n ≡ true → a ≤ c → c < a + n
    → by_strings default rows c ≡ default
unfolding by_strings
strings-clear default [] a n c ok least most = refl
strings-clear default (row ∷ rows) a n c ok least most = grind (arith, nat_tests, and_parts, strings-clear default rows a n c)

-- f leaves each character of these ranges as it is; of a range, its first character, and how many it has
abbrev pub AllStay : (ℕ → List ℕ) → List (ℕ × ℕ) → Type 0
AllStay f [] = Unit {0}
AllStay f (r ∷ rs) = ((c : ℕ) → r.0 ≤ c → c < r.0 + r.1 → f c ≡ c ∷ []) × AllStay f rs

abbrev all_clear : List Row → List Row → List (ℕ × ℕ) → Bool
all_clear runs strings rs = list_all (λ r. clear_of_runs runs r.0 r.1 && clear_of_strings strings r.0 r.1) rs

AllStay-computed : (runs strings : List Row) (rs : List (ℕ × ℕ)) → all_clear runs strings rs ≡ true
    → AllStay (case_mapping runs strings) rs
AllStay-computed runs strings [] ok = tt
AllStay-computed runs strings (r ∷ rs) ok =
    let parts = and_parts (clear_of_runs runs r.0 r.1 && clear_of_strings strings r.0 r.1) (all_clear runs strings rs) ok in
    let both = and_parts (clear_of_runs runs r.0 r.1) (clear_of_strings strings r.0 r.1) parts.0 in (
      λ c least most.
          strings-clear _ strings r.0 r.1 c both.1 least most ∙ ap (λ x. x ∷ []) (runs-clear runs r.0 r.1 c both.0 least most),
      AllStay-computed runs strings rs parts.1,
    )

abbrev pub caseless : List (ℕ × ℕ)
caseless = (0x588, 2840) ∷ (0x2000, 294) ∷ (0x2d2e, 30994) ∷ (0xabc0, 20288) ∷ (0x1e944, 988860) ∷ []

pub lowercase_stays : AllStay to_lowercase caseless
unfolding to_lowercase lowercase_runs lowercase_strings
lowercase_stays = AllStay-computed _ _ caseless refl

pub uppercase_stays : AllStay to_uppercase caseless
unfolding to_uppercase uppercase_runs uppercase_strings
uppercase_stays = AllStay-computed _ _ caseless refl

pub ruleset caseless_stays = (lowercase_stays, uppercase_stays)

-- ---- letters that have case, and that case does not ignore

abbrev pub AllAre : (ℕ → Bool) → Bool → List (ℕ × ℕ) → Type 0
AllAre f b [] = Unit {0}
AllAre f b (r ∷ rs) = ((c : ℕ) → r.0 ≤ c → c < r.0 + r.1 → f c ≡ b) × AllAre f b rs

abbrev says : (ℕ → Bool) → Bool → ℕ → Bool
says f b c = cond b (f c) (not (f c))

abbrev all_are : (ℕ → Bool) → Bool → List (ℕ × ℕ) → Bool
all_are f b rs = list_all (λ r. all_from (says f b) r.0 r.1) rs

same : (b x : Bool) → cond b x (not x) ≡ true → x ≡ b
same true x h = h
same false false h = refl
same false true h = sym h

AllAre-computed : (f : ℕ → Bool) (b : Bool) (rs : List (ℕ × ℕ)) → all_are f b rs ≡ true → AllAre f b rs
AllAre-computed f b [] ok = tt
AllAre-computed f b (r ∷ rs) ok =
    let parts = and_parts (all_from (says f b) r.0 r.1) (all_are f b rs) ok in
    (λ c least most. same b (f c) (all_from-at (says f b) r.0 r.1 c parts.0 least most), AllAre-computed f b rs parts.1)

abbrev pub cased_letters : List (ℕ × ℕ)
cased_letters = (0x41, 26) ∷ (0x61, 26) ∷ (0x391, 17) ∷ (0x3a3, 7) ∷ (0x3b1, 25) ∷ (0x410, 64) ∷ []

pub letters_cased : AllAre is_cased true cased_letters
unfolding in_ranges is_cased cased_ranges
letters_cased = AllAre-computed is_cased true cased_letters refl

pub letters_count : AllAre is_case_ignorable false cased_letters
unfolding in_ranges is_case_ignorable case_ignorable_ranges
letters_count = AllAre-computed is_case_ignorable false cased_letters refl

pub ruleset cased_ones = (letters_cased, letters_count)
