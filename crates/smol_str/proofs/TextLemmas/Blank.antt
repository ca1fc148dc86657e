-- For `blank_slice` and the places: the constant's slices, and the test for a run.
use Rattle.smol_str.proofs.Common.{◌≡◌, refl, true, ◌⊎◌, rules, ℕ, zero, suc, ◌+◌, ◌-◌, ◌≤◌, ◌==◌, arith, nat_tests, and_parts, List, [], ◌∷◌, length, take, drop, replicate, length-append, ◌++◌, take_at, take-append-drop, length-drop, get_or-take, All-replicate, All-from_get_or, list_all, drop_at, common_steps}
use Rattle.smol_str.proofs.Common.{IsAscii, IsAscii-append, IsCharBoundary, IsCharBoundary-from_ascii}
use Rattle.smol_str.proofs.Common.{blank_run, leading_newlines, all_spaces, IsBlankRun}
use Rattle.std.proofs.Math.ListN.{length-replicate}
use Rattle.std.proofs.lemmas.List.{replicate-append-replicate}
use Rattle.std.proofs.lemmas.List.Folds.{length-prefix_len}
use Rattle.std.proofs.lemmas.List.Sums.{list_all-from_AllPass, prefix_len_passes}
use Rattle.std.proofs.lemmas.Str.Ascii.{IsAscii-from_all}
use Rattle.smol_str.specs.declared.value.blank.TheConstants.{BLANK_NEWLINES, BLANK_SPACES}

pub length-blank_run : (a b : ℕ) → length (blank_run a b) ≡ a + b
length-blank_run a b = simp (length-append, length-replicate)

pub IsAscii-blank_run : (a b : ℕ) → IsAscii (blank_run a b)
IsAscii-blank_run a b = search (rules, arith, IsAscii-append, IsAscii-from_all, All-replicate)

pub blank_boundary : (n : ℕ) (t : List ℕ) → t ≡ blank_run BLANK_NEWLINES BLANK_SPACES → n ≤ BLANK_NEWLINES + BLANK_SPACES
    → IsCharBoundary t n
blank_boundary n t e h = rw e (search (rules, arith, IsCharBoundary-from_ascii, IsAscii-blank_run, length-blank_run))

-- the shorter run inside a longer one
pub slice-blank_run : (n m a b : ℕ) → a ≤ n → b ≤ m → take ((n + b) - (n - a)) (drop (n - a) (blank_run n m)) ≡ blank_run a b
slice-blank_run n m a b la lb =
    let front : replicate {A = ℕ} n 10 ≡ replicate (n - a) 10 ++ replicate a 10 =
    search (rules, arith, replicate-append-replicate) in
    let back : replicate {A = ℕ} m 32 ≡ replicate b 32 ++ replicate (m - b) 32 =
    search (rules, arith, replicate-append-replicate) in
    grind (arith, common_steps, front, back, take_at, drop_at, length-blank_run)

-- a list of one character alone
all_same : (k : ℕ) (xs : List ℕ) → list_all (λ c. c == k) xs ≡ true → xs ≡ replicate (length xs) k
all_same k [] h = refl
all_same k (x ∷ xs) h = grind (arith, common_steps, nat_tests, and_parts, all_same k xs)

newlines_pass : (t : List ℕ) → list_all (λ c. c == 10) (take (leading_newlines t) t) ≡ true
newlines_pass t =
    search (rules, list_all-from_AllPass, All-from_get_or, prefix_len_passes, get_or-take, length-prefix_len)

pub leading_newlines-blank_run : (a b : ℕ) → leading_newlines (blank_run a b) ≡ a
leading_newlines-blank_run zero zero = refl
leading_newlines-blank_run zero (suc b) = refl
leading_newlines-blank_run (suc a) b = omega (arith, leading_newlines-blank_run a b)

-- newlines in front, and spaces behind them
pub blank_run-from_tests : (t : List ℕ) → all_spaces (drop (leading_newlines t) t) ≡ true →
    t ≡ blank_run (leading_newlines t) (length t - leading_newlines t)
blank_run-from_tests t h =
    let n = leading_newlines t in
    let sizes = length-prefix_len (λ c. c == 10) t in
    cc (take-append-drop n t, all_same 10 (take n t) (newlines_pass t), all_same 32 (drop n t) h, length-drop n t)

pub IsBlankRun-from_tests : (t : List ℕ) (n : ℕ) → n ≡ leading_newlines t → n ≤ BLANK_NEWLINES →
    length t - n ≤ BLANK_SPACES → all_spaces (drop n t) ≡ true → IsBlankRun t
IsBlankRun-from_tests t n e few_newlines few_spaces all =
    let reads = blank_run-from_tests t (rw e at all) in search (rules, reads)

-- what the tests say of a blank run
pub record Passes (t : List ℕ) : Type 0 where
  pub newlines : leading_newlines t ≤ BLANK_NEWLINES
  pub spaces : length t - leading_newlines t ≤ BLANK_SPACES
  pub rest : all_spaces (drop (leading_newlines t) t) ≡ true

passes_at : (a b : ℕ) → a ≤ BLANK_NEWLINES → b ≤ BLANK_SPACES → Passes (blank_run a b)
passes_at a b la lb =
    let spaces = list_all-from_AllPass (λ c. c == 32) (replicate b 32) in
    search (rules, leading_newlines-blank_run, length-blank_run, drop_at, length-replicate, spaces, All-replicate)

pub Passes-from_IsBlankRun : (t : List ℕ) → IsBlankRun t → Passes t
Passes-from_IsBlankRun t r = rw r.reads (passes_at r.newlines r.spaces r.few_newlines r.few_spaces)

-- a blank run reads as its newlines and the rest as spaces
pub reads-run : (t : List ℕ) → IsBlankRun t → t ≡ blank_run (leading_newlines t) (length t - leading_newlines t)
reads-run t r = blank_run-from_tests t (Passes-from_IsBlankRun t r).rest

-- a run begins with one of the two
pub first-blank : (x : ℕ) (xs : List ℕ) → IsBlankRun (x ∷ xs) → (x ≡ 10) ⊎ (x ≡ 32)
first-blank x xs r = search rules
