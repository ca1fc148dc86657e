-- For `bytes::search`: the first of the places that are tested at once, by a mask that has a bit for each.
use Rattle.smol_str.proofs.Common.{ap, sym, ◌∙◌, subst, ⊎_elim, cases_lt, bit_and, Option, None, Some, ◌≡◌, ℕ, ◌<◌, ◌≤◌, ◌↔◌, ◌%◌, ◌^◌, List, false, cond, nat_eq, length, get_or, get_or_past, map, replicate, take, arith, w8, w64, zip2, mask_l, top, length-map, get_or-take, get_or-drop, drop, ◌+◌, ◌-◌}
use Rattle.std.specs.Int.{bit_at, trailing_zeros}
use Rattle.std.proofs.lemmas.Bool.{cases_eq, eqb-true, eq-eqb}
use Rattle.std.proofs.lemmas.List.{get_or-map}
use Rattle.std.proofs.lemmas.Nat.Bits.{bit_at-trailing_zeros, bit_at-zero, bit_at_and, bit_at-lt}
use Rattle.std.proofs.lemmas.Simd.{bitmask_splat, bit_mask_l}
use Rattle.memchr.specs.Find.{Nowhere, NoneBefore, Passes, OccursAt, FindsNeedle, IsFirst, is_byte}
use Rattle.memchr.proofs.lemmas.FindLemmas.{Nowhere-then, Nowhere-wider}

-- a bit for each lane that is x
abbrev pub lane_mask : ℕ → List ℕ → ℕ → ℕ
lane_mask x lanes n = mask_l (map (top 7) (zip2 (λ a b. cond (nat_eq a b) 255 0) lanes (replicate n x))) % 2 ^ 64

module _ (x : ℕ) (bytes lanes : List ℕ) (at n : ℕ) (few : n ≤ 64) (long : length lanes ≡ n) (read : lanes ≡ take n (drop at bytes)) where
  bit : (k : ℕ) → bit_at (lane_mask x lanes n) k ≡ cond (get_or (map (is_byte x) lanes) k false) 1 0
  bit k = cc (bitmask_splat w8 nat_eq lanes n x long few, bit_mask_l (map (is_byte x) lanes) k)

  lane : (k : ℕ) → k < n → get_or (map (is_byte x) lanes) k false ≡ is_byte x (get_or bytes (at + k) 0)
  lane k low =
      cc (get_or-map (is_byte x) lanes k 0 false (omega arith), get_or-take n (drop at bytes) k 0 low, get_or-drop at bytes k 0)

  past : (k : ℕ) → n ≤ k → bit_at (lane_mask x lanes n) k ≡ 0
  past k high = grind (arith, bit k, get_or_past, length-map)

  pub marked : (k : ℕ) → (bit_at (lane_mask x lanes n) k ≡ 1) ↔ ((k < n) × Passes (is_byte x) bytes (at + k))
  marked k = (
    λ one.
        let within : k < n = ⊎_elim (λ l. l) (λ h. absurd (omega (arith, one, past k h))) (cases_lt k n) in
        (within, grind (arith, bit k, lane k within, one)),
    λ here. grind (arith, bit k, lane k here.0, here.1),
  )

-- the lowest bit of a mask is for the first of n places where P holds
module _ (P : ℕ → Type 0) (at n m : ℕ) (small : m < 2 ^ 64) (bits : (k : ℕ) → (bit_at m k ≡ 1) ↔ ((k < n) × P (at + k))) where
  missing : (k : ℕ) → at ≤ k → k < at + n → bit_at m (k - at) ≡ 0 → ¬ P k
  missing k low high zero here =
      let e : k ≡ at + (k - at) = omega arith in
      omega (arith, zero, (bits (k - at)).1 (omega arith, subst P e here))

  pub mask_none : m ≡ 0 → Nowhere P at (at + n)
  mask_none none k low high = missing k low high (cc (bit_at-zero (k - at)))

  pub mask_first : ¬ (m ≡ 0) → NoneBefore P at (at + n) (at + trailing_zeros w64 m) × P (at + trailing_zeros w64 m)
  mask_first some =
      let lowest = bit_at-trailing_zeros w64 m (omega (arith, some)) (omega (arith, small)) in
      let here = (bits (trailing_zeros w64 m)).0 lowest.1 in (
        record {
          low = omega arith;
          high = omega (arith, here.0);
          before = λ j from below. missing j from (omega (arith, here.0)) (lowest.2 (j - at) (omega arith));
        },
        here.1,
      )

-- where a needle of two bytes occurs
module _ (hay nd : List ℕ) (two : length nd ≡ 2) where
  pub two-stand : (k : ℕ) → OccursAt hay nd k → (get_or hay k 0 ≡ get_or nd 0 0) × (get_or hay (k + 1) 0 ≡ get_or nd 1 0)
  two-stand k h = (ap (λ m. get_or hay m 0) (omega arith) ∙ h.reads 0 (omega arith), h.reads 1 (omega arith))

  two-occur : (k : ℕ) → k + 2 ≤ length hay → get_or hay k 0 ≡ get_or nd 0 0 → get_or hay (k + 1) 0 ≡ get_or nd 1 0 → OccursAt hay nd k
  two-occur k fits first second = record {
    fits = omega arith;
    reads = λ j b. ⊎_elim
        (λ zero. subst (λ m. get_or hay (k + m) 0 ≡ get_or nd m 0) (sym zero) (ap (λ m. get_or hay m 0) (omega arith) ∙ first))
        (λ other. let one : 1 ≡ j = omega (arith, other, b) in subst (λ m. get_or hay (k + m) 0 ≡ get_or nd m 0) one second)
        (cases_eq j 0);
  }

  -- a mask for the first byte, and one for the second, of the places behind
  pub two-marked : (at n a b : ℕ) → at + n + 1 ≤ length hay
      → ((k : ℕ) → (bit_at a k ≡ 1) ↔ ((k < n) × Passes (is_byte (get_or nd 0 0)) hay (at + k)))
      → ((k : ℕ) → (bit_at b k ≡ 1) ↔ ((k < n) × Passes (is_byte (get_or nd 1 0)) hay (at + 1 + k)))
      → (k : ℕ) → (bit_at (bit_and a b) k ≡ 1) ↔ ((k < n) × OccursAt hay nd (at + k))
  two-marked at n a b room first second k =
      let both = bit_at_and a b k in
      let behind : at + 1 + k ≡ at + k + 1 = omega arith in (
        λ one.
            let f = (first k).0 (omega (arith, one, both, bit_at-lt a k, bit_at-lt b k)) in
            let s = (second k).0 (omega (arith, one, both, bit_at-lt a k, bit_at-lt b k)) in (
              f.0,
              two-occur (at + k) (omega (arith, f.0)) (eqb-true _ _ f.1)
                  (ap (λ m. get_or hay m 0) (sym behind) ∙ eqb-true _ _ s.1),
            ),
        λ here.
            let reads = two-stand (at + k) here.1 in
            let f = (first k).1 (here.0, eq-eqb _ _ reads.0) in
            let s = (second k).1 (here.0, eq-eqb _ _ (ap (λ m. get_or hay m 0) behind ∙ reads.1)) in
            omega (arith, both, f, s),
      )

-- what is found behind places where P does not hold
pub then-first : {P : ℕ → Type 0} {i j m k : ℕ} (l : ℕ) → i ≤ j → m ≤ l → Nowhere P i j → NoneBefore P j m k × P k
    → NoneBefore P i l k × P k
then-first l from to front found = (
  record {
    low = omega (arith, found.0.low, from);
    high = omega (arith, found.0.high, to);
    before = Nowhere-then front found.0.before;
  },
  found.1,
)

-- the last places, of which those below `at` were searched before
pub found-last : (hay nd : List ℕ) → length nd ≡ 2 → (at last n : ℕ) → last + n + 1 ≡ length hay → last ≤ at
    → Nowhere (OccursAt hay nd) 0 at → (r : Option ℕ) → IsFirst (OccursAt hay nd) last (last + n) r → FindsNeedle hay nd 0 r
found-last hay nd two at last n e le front None back =
    Nowhere-wider (length hay + 1) (λ k o. omega (arith, o.fits, two, e))
    (Nowhere-then (λ k low high. front k low (omega (arith, high, le))) back)
found-last hay nd two at last n e le front (Some k) back =
    then-first (length hay + 1) (omega arith) (omega (arith, e)) (λ j low high. front j low (omega (arith, high, le))) back
