-- Plain bytes: how many come first, by lanes, and what JSON writes for them.
use Rattle.smol_str.proofs.Common.{sym, take-append-drop, nat_eq, ◌≡◌, get_or-drop, drop_at, ℕ, zero, suc, ◌+◌, ◌-◌, ◌%◌, ◌^◌, ◌<◌, ◌≤◌, List, [], ◌∷◌, ◌++◌, Bool, true, false, cond, ltb, length, map, replicate, take, drop, refl, arith, rules, get_or, get_or-take, common_steps, nat_tests, mask_l-mod, length-map, zip2, mask_l, top, min, list_all, IsUtf8}
use Rattle.std.proofs.Common.{eqb, bit_or}
use Rattle.std.specs.List.{prefix_len}
use Rattle.std.proofs.lemmas.List.Sums.{prefix_len_passes, prefix_len_stops, prefix_len-le-length, list_all-from_AllPass}
use Rattle.std.proofs.lemmas.List.Folds.{length-prefix_len, prefix_len-append}
use Rattle.std.proofs.lemmas.Str.{lead_after_ascii}
use Rattle.std.proofs.lemmas.Option.{slice_get_within, get_or_from_slice_get}
use Rattle.std.proofs.lemmas.Simd.{first_set_mask_l}
use Rattle.std.specs.Int.Count.{count_trailing_zeros}
use Rattle.smol_str.specs.Plain.{is_plain, is_space}
use Rattle.json.specs.Run.{is_stop}
use Rattle.json.specs.Print.{escape}
use Rattle.json.proofs.Printed.Strings.{escape_byte_plain}

-- bytes past ASCII are plain
pub high : (x : ℕ) → 128 ≤ x → is_plain x ≡ true
high x h = grind (arith, nat_tests, common_steps)

-- ---- a run is the longest front that passes a test

module _ (p : ℕ → Bool) where
  -- a part of the bytes behind a part of the run
  pub run-part : (bytes : List ℕ) (at n : ℕ) → at ≤ prefix_len p bytes
      → at + prefix_len p (take n (drop at bytes)) ≡ min (at + n) (prefix_len p bytes)
  run-part [] at n h = grind (arith, common_steps)
  run-part (x ∷ bytes) zero zero h = omega arith
  run-part (x ∷ bytes) zero (suc n) h = grind (arith, common_steps, run-part bytes zero n)
  run-part (x ∷ bytes) (suc at) n h = grind (arith, common_steps, run-part bytes at n)

  pub run-passes : (xs : List ℕ) → list_all p (take (prefix_len p xs) xs) ≡ true
  run-passes xs = list_all-from_AllPass p _ (λ k d low. search (rules, get_or-take, prefix_len_passes, length-prefix_len))

  pub whole-run : (xs : List ℕ) → nat_eq (prefix_len p xs) (length xs) ≡ list_all p xs
  whole-run [] = refl
  whole-run (x ∷ xs) = grind (arith, common_steps, nat_tests, whole-run xs)

  pub cut-run : (xs ys : List ℕ) (y : ℕ) → list_all p xs ≡ true → p y ≡ false → drop (prefix_len p (xs ++ y ∷ ys)) (xs ++ y ∷ ys) ≡ y ∷ ys
  cut-run xs ys y h stop = drop_at xs (y ∷ ys) _ (rw (prefix_len-append p xs (y ∷ ys), whole-run xs, h, stop) (omega arith))

  -- one more of the run, and its end
  pub run-more : (xs : List ℕ) (k : ℕ) → k ≤ prefix_len p xs → k < length xs → p (get_or xs k 0) ≡ true → k + 1 ≤ prefix_len p xs
  run-more xs k h low pass = grind (arith, prefix_len_stops p xs 0)

  pub run-end : (xs : List ℕ) (k : ℕ) → k ≤ prefix_len p xs → (k < length xs → p (get_or xs k 0) ≡ false) → prefix_len p xs ≡ k
  run-end xs k h stop = grind (arith, prefix_len_passes p xs k 0, prefix_len-le-length p xs)

-- zeros are not plain
pub run-padded : (xs : List ℕ) (n : ℕ) → prefix_len is_plain (xs ++ replicate n 0) ≡ prefix_len is_plain xs
run-padded [] zero = refl
run-padded [] (suc n) = refl
run-padded (x ∷ xs) n = grind (arith, common_steps, run-padded xs n)

-- plain bytes are written without escapes
pub escape-plain : (s : List ℕ) → list_all is_plain s ≡ true → escape s ≡ s
escape-plain [] h = refl
escape-plain (x ∷ s) h = grind (arith, nat_tests, common_steps, escape_byte_plain x, escape-plain s)

pub ruleset runs = (run-part, run-more, run-end, whole-run, run-padded, prefix_len-le-length)

-- ---- by lanes

abbrev compared : (ℕ → ℕ → Bool) → List ℕ → ℕ → List ℕ
compared test v x = zip2 (λ a b. cond (test a b) 255 0) v (replicate (length v) x)

abbrev pub marks : List ℕ → List ℕ
marks v = zip2 bit_or (zip2 bit_or (compared eqb v 34) (compared eqb v 92)) (compared ltb v 32)

tops : (v : List ℕ) → map (top 7) (marks v) ≡ map is_stop v
tops [] = refl
tops (x ∷ v) = grind (arith, common_steps, tops v)

-- how many lanes come before the first stop, by the mask of the stops
abbrev pub mask : List ℕ → ℕ
mask v = mask_l (map (top 7) (marks v)) % 2 ^ 64

pub first_stop : (v : List ℕ) → length v ≤ 64 → prefix_len is_plain v ≡ cond (eqb (mask v) 0) (length v) (count_trailing_zeros 64 (mask v))
first_stop v few =
    rw (tops v, mask_l-mod (map is_stop v) 64 (omega (arith, length-map v is_stop))) (sym (first_set_mask_l is_stop v (length v) refl few))

-- ---- where a text may be cut

-- white space and what is not plain are ASCII
pub lead-spaces : (bs : List ℕ) (k : ℕ) → 0 < k → IsUtf8 bs → k ≡ prefix_len is_space bs → k < length bs → 128 ≤ get_or bs k 0 → 192 ≤ get_or bs k 0
lead-spaces bs k some u is h = grind (arith, nat_tests, common_steps, prefix_len_passes is_space bs (k - 1) 0, lead_after_ascii bs (k - 1))

pub lead-second : (bs : List ℕ) (k : ℕ) → k ≡ 1 → IsUtf8 bs → get_or bs 0 0 < 128 → k < length bs → 128 ≤ get_or bs k 0 → 192 ≤ get_or bs k 0
lead-second bs k is u low h = grind (arith, common_steps, lead_after_ascii bs 0)

pub plain-stop : (bs : List ℕ) (k : ℕ) → k ≡ prefix_len is_plain bs → k < length bs → (get_or bs k 0 < 128) × (is_plain (get_or bs k 0) ≡ false)
plain-stop bs k is h = let stop = prefix_len_stops is_plain bs 0 in (grind (arith, nat_tests, common_steps, stop), grind (arith, stop))

pub ruleset seconds = (lead-second, slice_get_within, get_or_from_slice_get)

pub ruleset fronts = (plain-stop, lead-spaces, prefix_len-le-length, run-passes, escape-plain, get_or-drop, take-append-drop)
