-- For byte order and self-synchronisation: the four forms of a character's bytes.
use Rattle.smol_str.proofs.Common.{◌≡◌, ℕ, ◌+◌, ◌/◌, ◌<◌, ◌≤◌, List, [], ◌∷◌, arith, next, nat_tests, cases_lt, common_steps, rules}
use lib.Utf8.{encode}

-- one to four bytes, with six bits in each but the first
abbrev pub form1 : ℕ → List ℕ
form1 c = c ∷ []

abbrev pub form2 : ℕ → List ℕ
form2 c = (192 + c / 64) ∷ next c ∷ []

abbrev pub form3 : ℕ → List ℕ
form3 c = (224 + c / 64 / 64) ∷ next (c / 64) ∷ next c ∷ []

abbrev pub form4 : ℕ → List ℕ
form4 c = (240 + c / 64 / 64 / 64) ∷ next (c / 64 / 64) ∷ next (c / 64) ∷ next c ∷ []

pub data Form (c : ℕ) : Type 0 where
  one : c < 128 → encode c ≡ form1 c → Form c
  two : 128 ≤ c → c < 2048 → encode c ≡ form2 c → Form c
  three : 2048 ≤ c → c < 65536 → encode c ≡ form3 c → Form c
  four : 65536 ≤ c → encode c ≡ form4 c → Form c

pub is_one : (c : ℕ) → c < 128 → encode c ≡ form1 c
unfolding encode
is_one c h = search (rules, nat_tests)

pub is_two : (c : ℕ) → 128 ≤ c → c < 2048 → encode c ≡ form2 c
unfolding encode
is_two c l h = search (rules, nat_tests)

pub is_three : (c : ℕ) → 2048 ≤ c → c < 65536 → encode c ≡ form3 c
unfolding encode
is_three c l h = grind (arith, nat_tests)

pub is_four : (c : ℕ) → 65536 ≤ c → encode c ≡ form4 c
unfolding encode
is_four c l = grind (arith, nat_tests)

pub form : (c : ℕ) → Form c
form c = grind (arith, common_steps, cases_lt, is_one, is_two, is_three, is_four)
