-- For `bytes::words`: two runs of bytes that agree at their front and at their end.
use Rattle.smol_str.proofs.Common.{◌≡◌, ◌↔◌, ℕ, ◌+◌, ◌%◌, ◌^◌, ◌≤◌, List, [], ◌∷◌, Bool, IsTrue, cond, not, length, map, take, drop, zip2, mask_l, top, refl, arith, w8, common_steps, nat_tests, nat_eq, mask_l-mod, tops_compared, take-append-drop, take-take, take_all, length-drop}
use Rattle.std.proofs.Common.{eqb}
use Rattle.std.proofs.lemmas.Simd.{length-zip2}

abbrev pub differs : ℕ → ℕ → Bool
differs a b = not (eqb a b)

-- the lanes of bytes that differ
abbrev pub difference : List ℕ → List ℕ → List ℕ
difference xs ys = zip2 (λ a b. cond (differs a b) 255 0) xs ys

same_from_mask : (xs ys : List ℕ) → length xs ≡ length ys → mask_l (zip2 differs xs ys) ≡ 0 → xs ≡ ys
same_from_mask [] [] long e = refl
same_from_mask [] (y ∷ ys) long e = cc
same_from_mask (x ∷ xs) [] long e = cc
same_from_mask (x ∷ xs) (y ∷ ys) long e = grind (arith, nat_tests, common_steps, same_from_mask xs ys)

mask_from_same : (xs : List ℕ) → mask_l (zip2 differs xs xs) ≡ 0
mask_from_same [] = refl
mask_from_same (x ∷ xs) = grind (arith, nat_tests, common_steps, mask_from_same xs)

differ_bitmask : (xs ys : List ℕ) (n : ℕ) → length xs ≡ n → length ys ≡ n → n ≤ 64
    → mask_l (map (top 7) (difference xs ys)) % 2 ^ 64 ≡ mask_l (zip2 differs xs ys)
differ_bitmask xs ys n e f small =
    let whole = mask_l-mod (zip2 differs xs ys) 64 (omega (arith, length-zip2 differs xs ys (omega arith))) in
    cc (tops_compared w8 differs xs ys)

-- no bit is set exactly where the lanes are equal
pub same-lanes : (xs ys : List ℕ) (n : ℕ) → length xs ≡ n → length ys ≡ n → n ≤ 64
    → IsTrue (not (not (nat_eq (mask_l (map (top 7) (difference xs ys)) % 2 ^ 64) 0))) ↔ (xs ≡ ys)
same-lanes xs ys n e f small =
    let mask = differ_bitmask xs ys n e f small in (
      λ h. same_from_mask xs ys (omega arith) (grind (arith, nat_tests, common_steps, mask)),
      λ is. rw (mask, is, mask_from_same ys) refl,
    )

-- the first n bytes and the last, which may overlap, are all
pub same-ends : (xs ys : List ℕ) (n last : ℕ) → length xs ≡ length ys → last + n ≡ length xs → last ≤ n
    → take n (drop 0 xs) ≡ take n (drop 0 ys) → take n (drop last xs) ≡ take n (drop last ys) → xs ≡ ys
same-ends xs ys n last long all few front end =
    let behind : drop last xs ≡ drop last ys =
    cc (take_all n (drop last xs) (omega (arith, length-drop {A = ℕ})), take_all n (drop last ys) (omega (arith, length-drop {A = ℕ})), end) in
    let before : take last xs ≡ take last ys = cc (take-take last n xs few, take-take last n ys few, front) in
    cc (take-append-drop last xs, take-append-drop last ys)
