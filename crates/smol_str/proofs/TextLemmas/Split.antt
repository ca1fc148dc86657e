-- For searches and replacements: a text taken apart at a place, and the bytes of its parts.
use Rattle.smol_str.proofs.Common.{◌≡◌, ℕ, ◌-◌, List, [], ◌∷◌, ◌++◌, true, take, drop, refl, subst, arith, IsUtf8, IsCharBoundary, chars, encode_utf8_all, scalars, chars-encodes, encodes-append, encodes-chars, scalars-chars, IsCharBoundary-at_seam, take_at, drop_at, size, and_parts, common_steps}
use Rattle.smol_str.proofs.TextLemmas.Sizes.{size-append}

pub scalars_parts : (a b : List ℕ) → scalars (a ++ b) ≡ true → (scalars a ≡ true) × (scalars b ≡ true)
scalars_parts [] b e = (refl, e)
scalars_parts (c ∷ a) b e = grind (arith, common_steps, and_parts, scalars_parts a b)

-- the text bs is a and then b
module _ (bs a b : List ℕ) where
  pub bytes-parts : IsUtf8 bs → chars bs ≡ a ++ b → bs ≡ encode_utf8_all a ++ encode_utf8_all b
  bytes-parts u e = cc (encodes-chars bs u, encodes-append a b)

  pub boundary-parts : (i : ℕ) → IsUtf8 bs → chars bs ≡ a ++ b → size a ≡ i → IsCharBoundary bs i
  boundary-parts i u e n =
      let s = scalars_parts a b (cc (scalars-chars bs u)) in
      rw (← n) (IsCharBoundary-at_seam bs (encode_utf8_all a) (encode_utf8_all b) (bytes-parts u e) (b, (s.1, refl)))

  pub drop-parts : (i : ℕ) → IsUtf8 bs → chars bs ≡ a ++ b → size a ≡ i → drop i bs ≡ encode_utf8_all b
  drop-parts i u e n = cc (bytes-parts u e, drop_at (encode_utf8_all a) (encode_utf8_all b) i n)

  pub chars-drop : (i : ℕ) → IsUtf8 bs → chars bs ≡ a ++ b → size a ≡ i → chars (drop i bs) ≡ b
  chars-drop i u e n = grind (arith, common_steps, scalars_parts, scalars-chars, drop-parts, chars-encodes)

-- the text bs is a, q and then s
pub chars-middle : (bs a q s : List ℕ) (i j : ℕ) → IsUtf8 bs → chars bs ≡ a ++ (q ++ s) → size a ≡ i
    → size (a ++ q) ≡ j → chars (take (j - i) (drop i bs)) ≡ q
chars-middle bs a q s i j u e m n = grind (arith, common_steps, scalars_parts, scalars-chars, size-append, drop-parts, encodes-append, take_at, chars-encodes)

-- before a cut is the first of two parts
pub chars-take : (bs a b : List ℕ) (i : ℕ) → IsUtf8 bs → chars bs ≡ a ++ b → size a ≡ i → chars (take i bs) ≡ a
chars-take bs a b i u e n =
    subst (λ k. chars (take k bs) ≡ a) (omega arith) (chars-middle bs [] a b 0 i u e refl n)
