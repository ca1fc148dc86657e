-- For `order_words` and `InlineText::order`: the order of packed texts is that of their words.
use Rattle.smol_str.proofs.Common.{◌≡◌, sym, ◌∙◌, ap, refl, ⊎_elim, rules, ℕ, suc, ◌+◌, ◌-◌, ◌*◌, ◌^◌, ◌<◌, ◌≤◌, arith, w64, from_be_bytes, nat_cmp, ordering_then, ordering_reverse, cases_lt, cases_order, tied_itself}
use Rattle.smol_str.proofs.Common.{List, [], ◌∷◌, ◌++◌, length, take, drop, get_or, replicate, length-drop, slice_cmp, nat_list_cmp_total, drop_more, drop_all, drop-drop, take-append-drop, common_steps}
use Rattle.smol_str.proofs.Common.{chars, encodes-chars, INLINE_CAP, IsPacked, unpacked}
use Rattle.std.specs.declared.cmp.Ordering.TheVariants.{Less}
use Rattle.std.specs.declared.cmp.Ordering.{Ordering}
use Rattle.std.proofs.Math.Nat.{mul-le-mul_right, pow-succ'}
use Rattle.smol_str.proofs.BufferLemmas.Words.{AreBytes, bytes-part, length-part}
use Rattle.smol_str.proofs.TextLemmas.Order.{order-texts, nat_cmp-less, nat_cmp-same, nat_cmp-greater, slice_cmp-front, less_head, same_head}

-- the number of these bytes, the first the highest
big : List ℕ → ℕ
big [] = 0
big (b ∷ bytes) = b * 256 ^ length bytes + big bytes

big-drop : (xs : List ℕ) (n i : ℕ) → length xs ≡ n → i < n →
    big (drop i xs) ≡ get_or xs i 0 * 256 ^ (n - (i + 1)) + big (drop (i + 1) xs)
unfolding big
big-drop xs n i e h = search (rules, length-drop, drop_more)

big-eight : (xs : List ℕ) → length xs ≡ 8 → from_be_bytes w64 xs ≡ big xs
unfolding big
big-eight xs e = grind (arith, common_steps, drop_all, big-drop)

-- a greater digit before lesser numbers
digit-less : (x y p b c : ℕ) → x < y → b < p → x * p + b < y * p + c
digit-less x y p b c h l = grind (arith, common_steps, mul-le-mul_right)

big-below : (xs : List ℕ) → AreBytes xs → big xs < 256 ^ length xs
unfolding big
big-below [] h = omega arith
big-below (x ∷ xs) h =
    let rest = big-below xs (λ i. h (suc i)) in
    grind (arith, h 0, rest, digit-less x 256 (256 ^ length xs) (big xs) 0, pow-succ' 256 (length xs))

-- the first digit decides, or else the rest
nat_cmp-add : (a b c : ℕ) → nat_cmp (a + b) (a + c) ≡ nat_cmp b c
nat_cmp-add a b c = grind (arith, common_steps, cases_order, nat_cmp-same, nat_cmp-less, nat_cmp-greater)

digits : (x y p b c : ℕ) → b < p → c < p → ordering_then (nat_cmp x y) (nat_cmp b c) ≡ nat_cmp (x * p + b) (y * p + c)
digits x y p b c h k =
    ⊎_elim (λ e. search (rules, arith, e, nat_cmp-same, nat_cmp-add))
    (⊎_elim (λ l. search (rules, arith, nat_cmp-less, digit-less)) (λ g. search (rules, arith, nat_cmp-greater, digit-less)))
    (cases_order x y)

then-assoc : (a b c : Ordering) → ordering_then a (ordering_then b c) ≡ ordering_then (ordering_then a b) c
then-assoc a b c = search rules

big-order : (xs ys s t : List ℕ) → length xs ≡ length ys → AreBytes xs → AreBytes ys →
    slice_cmp nat_cmp (xs ++ s) (ys ++ t) ≡ ordering_then (nat_cmp (big xs) (big ys)) (slice_cmp nat_cmp s t)
unfolding big
big-order [] [] s t e h k = refl
big-order (x ∷ xs) (y ∷ ys) s t e h k =
    let bx : AreBytes xs = λ i. h (suc i) in
    let by : AreBytes ys = λ i. k (suc i) in
    let power : 256 ^ length xs ≡ 256 ^ length ys = ap (λ n. 256 ^ n) (omega arith) in
    let first = digits x y (256 ^ length ys) in
    let rest = big-order xs ys s t (omega arith) bx by in
    search (rules, arith, rest, then-assoc (nat_cmp x y), power, first, big-below xs bx, big-below ys by)
big-order xs ys s t e h k = absurd (omega arith)

-- the step of a loop over words
order-step : (xs ys x y : List ℕ) (at : ℕ) → x ≡ take 8 (drop at xs) → y ≡ take 8 (drop at ys) → AreBytes xs →
    AreBytes ys → at + 8 ≤ length xs → at + 8 ≤ length ys →
    slice_cmp nat_cmp (drop at xs) (drop at ys) ≡
    ordering_then (nat_cmp (from_be_bytes w64 x) (from_be_bytes w64 y))
    (slice_cmp nat_cmp (drop (at + 8) xs) (drop (at + 8) ys))
order-step xs ys x y at e f h k l m =
    let long = length-part 8 xs at l in
    let wide = length-part 8 ys at m in
    let order = big-order _ _ (drop 8 (drop at xs)) (drop 8 (drop at ys)) (long ∙ sym wide) (bytes-part 8 xs at h)
    (bytes-part 8 ys at k) in
    rw (e, f) (grind (arith, order, long, wide, big-eight, drop-drop {A = ℕ}, take-append-drop {A = ℕ}))

then-differ : (a b : ℕ) (o : Ordering) → ¬ (a ≡ b) → ordering_then (nat_cmp a b) o ≡ nat_cmp a b
then-differ a b o other = grind (arith, common_steps, cases_order, nat_cmp-less, nat_cmp-greater)

then-same : (a b : ℕ) → ordering_then (nat_cmp a b) (slice_cmp nat_cmp [] []) ≡ nat_cmp a b
then-same a b = grind (arith, common_steps, cases_order, nat_cmp-same, nat_cmp-less, nat_cmp-greater)

pub order-differ : (xs ys : List ℕ) (at a b : ℕ) → AreBytes xs → AreBytes ys → at + 8 ≤ length xs →
    at + 8 ≤ length ys →
    a ≡ from_be_bytes w64 (take 8 (drop at xs)) → b ≡ from_be_bytes w64 (take 8 (drop at ys)) → ¬ (a ≡ b) →
    slice_cmp nat_cmp (drop at xs) (drop at ys) ≡ nat_cmp a b
order-differ xs ys at a b h k l m e f other =
    search (rules, arith, order-step xs ys _ _ at refl refl h k l m, then-differ)

pub order-same : (xs ys : List ℕ) (at a b : ℕ) → AreBytes xs → AreBytes ys → at + 8 ≤ length xs → at + 8 ≤ length ys →
    a ≡ from_be_bytes w64 (take 8 (drop at xs)) → b ≡ from_be_bytes w64 (take 8 (drop at ys)) → a ≡ b →
    slice_cmp nat_cmp (drop at xs) (drop at ys) ≡ slice_cmp nat_cmp (drop (at + 8) xs) (drop (at + 8) ys)
order-same xs ys at a b h k l m e f same = cc (order-step xs ys _ _ at refl refl h k l m, nat_cmp-same b)

pub order-last : (xs ys : List ℕ) (at a b : ℕ) → AreBytes xs → AreBytes ys → length xs ≡ at + 8 → length ys ≡ at + 8 →
    a ≡ from_be_bytes w64 (take 8 (drop at xs)) → b ≡ from_be_bytes w64 (take 8 (drop at ys)) →
    slice_cmp nat_cmp (drop at xs) (drop at ys) ≡ nat_cmp a b
order-last xs ys at a b h k l m e f =
    search (rules, arith, order-step xs ys _ _ at refl refl h k (omega arith) (omega arith), drop_all, then-same)

-- the length behind a text decides where the texts are equal up to zeros
behind : (ys : List ℕ) (m n k l : ℕ) → m ≡ length ys + n → k < l →
    slice_cmp nat_cmp (replicate m 0 ++ (k ∷ [])) ((ys ++ replicate n 0) ++ (l ∷ [])) ≡ Less
behind (y ∷ ys) (suc m) n k l e h = search (rules, cases_lt, less_head, same_head, behind ys m n k l (omega (arith, e)) h)
behind ys m n k l e h = search (rules, slice_cmp-front, less_head)

order-behind : (xs ys : List ℕ) (m n k l : ℕ) → length xs + m ≡ length ys + n → k + length ys ≡ l + length xs →
    slice_cmp nat_cmp ((xs ++ replicate m 0) ++ (k ∷ []))
    ((ys ++ replicate n 0) ++ (l ∷ [])) ≡ slice_cmp nat_cmp xs ys
order-behind [] [] m n k l e f = grind (arith, common_steps, tied_itself nat_list_cmp_total)
order-behind [] (y ∷ ys) m n k l e f = behind (y ∷ ys) m n k l (omega arith) (omega arith)
order-behind (x ∷ xs) [] m n k l e f =
    nat_list_cmp_total.antisymm (((x ∷ xs) ++ replicate m 0) ++ (k ∷ [])) (replicate n 0 ++ (l ∷ []))
    ∙ ap ordering_reverse (behind (x ∷ xs) n m l k (omega arith) (omega arith))
order-behind (x ∷ xs) (y ∷ ys) m n k l e f = search (rules, order-behind xs ys m n k l (omega arith) (omega arith))

pub order-packed : (xs ys : List ℕ) → IsPacked xs → IsPacked ys →
    slice_cmp nat_cmp xs ys ≡ slice_cmp nat_cmp (chars (unpacked xs)) (chars (unpacked ys))
order-packed xs ys h k =
    let s = unpacked xs in
    let t = unpacked ys in
    let order = order-behind s t (INLINE_CAP - length s) (INLINE_CAP - length t) (length s) (length t)
    (omega (arith, h.within, k.within)) (omega arith) in
    cc (h.reads, k.reads, order, order-texts (chars s) (chars t), encodes-chars s h.utf8, encodes-chars t k.utf8)
