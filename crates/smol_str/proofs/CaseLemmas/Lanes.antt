-- For the lanes of `kernel`: side by side they give what a map over the bytes gives.
use Rattle.std.proofs.lemmas.Simd.{zip2_splat_left}
use Rattle.smol_str.proofs.Common.{◌≡◌, ◌↔◌, false, cond, refl, not, zero, ℕ, ◌+◌, ◌-◌, ◌%◌, ◌^◌, ◌≤◌, ◌<◌, leb, ltb, arith, w8, bit_and, nat_eq, zip2, sel_l, mask_l, top, Each1, mask_l-mod, tops_compared, suc, nat_tests, List, [], ◌∷◌, length, map, replicate, length-map, common_steps}
use Rattle.smol_str.proofs.Common.{to_ascii_lowercase, to_ascii_uppercase, lowercase_is, uppercase_is, IsAscii, IsAscii-nil, IsAscii-cons}

abbrev pub at_most_mask : ℕ → ℕ → ℕ
at_most_mask a b = cond (leb a b) 255 0

abbrev pub below_mask : ℕ → ℕ → ℕ
below_mask a b = cond (ltb a b) 255 0

-- the lanes from a to z shifted by 32, and the others as they are, are f of each
abbrev pub MapsLanes : ℕ → ℕ → (ℕ → ℕ → ℕ) → (ℕ → ℕ) → Type 0
MapsLanes a z shift f = (xs : List ℕ) (n : ℕ) → length xs ≡ n → Each1 (λ x. x < 256) xs
    → sel_l (map (top 7) (zip2 bit_and (zip2 at_most_mask (replicate n a) xs) (zip2 at_most_mask xs (replicate n z))))
    (zip2 shift xs (replicate n 32)) xs ≡ map f xs

module _ (a z : ℕ) (shift : ℕ → ℕ → ℕ) (f : ℕ → ℕ)
    (inside : (x : ℕ) → x < 256 → a ≤ x → x ≤ z → shift x 32 ≡ f x) (below : (x : ℕ) → x < a → f x ≡ x)
    (above : (x : ℕ) → z < x → f x ≡ x) where
  one_lane : (x : ℕ) → x < 256
      → cond (top 7 (bit_and (cond (leb a x) 255 0) (cond (leb x z) 255 0))) (shift x 32) x ≡ f x
  one_lane x small = grind (arith, nat_tests)

  maps_lanes : MapsLanes a z shift f
  maps_lanes [] zero long small = refl
  maps_lanes (x ∷ xs) (suc n) long small = λ i. one_lane x small.0 i ∷ maps_lanes xs n (omega arith) small.1 i
  maps_lanes xs n long small = absurd (omega arith)

pub lower-lanes : MapsLanes 65 90 (λ a b. (a + b) % 256) to_ascii_lowercase
lower-lanes = grind (arith, common_steps, maps_lanes, lowercase_is)

-- `x - y`, wrapped
abbrev pub less : ℕ → ℕ → ℕ
less x y = (x + (256 - y)) % 256

pub upper-lanes : MapsLanes 97 122 less to_ascii_uppercase
upper-lanes = grind (arith, common_steps, maps_lanes, uppercase_is)

-- a bit for each lane above 127
high_bitmask : (v : List ℕ) (n : ℕ) → length v ≡ n → n ≤ 64
    → mask_l (map (top 7) (zip2 below_mask (replicate n 127) v)) % 2 ^ 64 ≡ mask_l (map (ltb 127) v)
high_bitmask v n long small =
    let whole = mask_l-mod (map (ltb 127) v) 64 (omega (arith, length-map v (ltb 127))) in
    cc (tops_compared w8 ltb (replicate n 127) v, zip2_splat_left ltb 127 n v long)

low_from_mask : (xs : List ℕ) → mask_l (map (ltb 127) xs) ≡ 0 → IsAscii xs
low_from_mask [] e = IsAscii-nil
low_from_mask (x ∷ xs) e = grind (arith, nat_tests, IsAscii-cons, low_from_mask xs)

mask_from_low : (xs : List ℕ) → IsAscii xs → mask_l (map (ltb 127) xs) ≡ 0
mask_from_low [] low = refl
mask_from_low (x ∷ xs) low = grind (arith, nat_tests, low 0, mask_from_low xs (λ i. low (suc i)))

-- no bit is set exactly where each lane is ASCII
pub low-lanes : (v : List ℕ) (n : ℕ) → length v ≡ n → n ≤ 64
    → (not (nat_eq (mask_l (map (top 7) (zip2 below_mask (replicate n 127) v)) % 2 ^ 64) 0) ≡ false) ↔ IsAscii v
low-lanes v n long small = grind (arith, common_steps, high_bitmask, low_from_mask, nat_tests, mask_from_low)
