-- For `bytes::words` and `buffer::packing`: bytes as words, read, packed and overwritten.
use Rattle.smol_str.proofs.Common.{◌≡◌, ◌∙◌, ap, refl, ◌&&◌, Bool, true, rules, ⊎_elim, ℕ, zero, suc, ◌+◌, ◌-◌, ◌*◌, ◌^◌, ◌/◌, ◌<◌, ◌≤◌, arith, nat_eq, w64, w32, to_le_bytes, from_le_bytes, le_bytes_8, pow-add, cases_lt, Decides-and, Decides-like, Decides-eqb, same_from_decides}
use Rattle.smol_str.proofs.Common.{List, [], ◌∷◌, ◌++◌, length, take, drop, get_or, replicate, length-take, length-drop, set, length-append, pointwise, bytes_decides, take-add, take-append-add, drop-append-add, take_at, drop_at, take_all, take-take, drop-take, drop-drop, take-append-le, take-append-drop, append_assoc, length-take-le, get_or-drop, get_or-take, get_or_past, set_at}
use Rattle.smol_str.proofs.Common.{length-replicate}
use Rattle.smol_str.proofs.Common.{drop-replicate, replicate_more, common_steps, encode, INLINE_CAP, packed, padded, put_at, PACKED_LEN}
use Rattle.std.proofs.Math.Nat.{div-div-eq-div-mul, pow-succ', mul-le-mul_left}
use Rattle.smol_str.specs.Words.{word}
use Rattle.smol_str.proofs.BufferLemmas.Packed.{length-padded}
use Rattle.smol_str.proofs.TextLemmas.Utf8.{form}

abbrev pub AreBytes : List ℕ → Type 0
AreBytes xs = (i : ℕ) → get_or xs i 0 < 256

-- the first byte is the lowest
word-first : (k : ℕ) (xs : List ℕ) (at : ℕ) → word (suc k) xs at ≡ get_or xs at 0 + 256 * word k xs (at + 1)
unfolding word
word-first zero xs at = let e : at + 0 ≡ at = omega arith in rw e (omega arith)
word-first (suc k) xs at =
    let e : at + suc k ≡ (at + 1) + k = omega arith in rw (e, pow-succ' 256 k) (omega (arith, word-first k xs at))

-- past the end
word-past : (k : ℕ) (xs : List ℕ) (at : ℕ) → length xs ≤ at + k → word (suc k) xs at ≡ word k xs at
unfolding word
word-past k xs at h = rw (get_or_past xs (at + k) 0 h) (omega arith)

pub word-none : (k : ℕ) (xs : List ℕ) (at : ℕ) → length xs ≤ at → word k xs at ≡ 0
unfolding word
word-none zero xs at h = refl
word-none (suc k) xs at h = word-past k xs at (omega (arith, h)) ∙ word-none k xs at h

pub word-few : (m k : ℕ) (xs : List ℕ) → length xs ≤ k → word (m + k) xs 0 ≡ word k xs 0
unfolding word
word-few zero k xs h = search (rules, arith)
word-few (suc m) k xs h =
    let e : suc m + k ≡ suc (m + k) = omega arith in search (rules, arith, e, word-past, word-few m k xs h)

-- without its lowest bytes
shift_once : (x m p : ℕ) → x < 256 → (x + 256 * m) / (256 * p) ≡ m / p
shift_once x m p h = grind (arith, common_steps, div-div-eq-div-mul)

power_more : (j : ℕ) → 2 ^ (8 * suc j) ≡ 256 * 2 ^ (8 * j)
power_more j = let e : 8 * suc j ≡ 8 + 8 * j = omega arith in rw e (pow-add 2 8 (8 * j))

pub word-shift : (j k : ℕ) (xs : List ℕ) (at to : ℕ) → AreBytes xs → length xs ≤ at + k → at + j ≡ to →
    word k xs at / 2 ^ (8 * j) ≡ word k xs to
word-shift zero k xs at to b h e = let f : to ≡ at = omega arith in rw f (omega arith)
word-shift (suc j) k xs at to b h e =
    let rest = word-shift j k xs (at + 1) to b (omega (arith, h)) (omega (arith, e)) in
    grind (arith, power_more, shift_once, b at, word-past k xs at h, word-first k xs at, rest)

pub word-below : (k : ℕ) (xs : List ℕ) (at : ℕ) → AreBytes xs → word k xs at < 256 ^ k
unfolding word
word-below zero xs at b = omega arith
word-below (suc k) xs at b = grind (arith, mul-le-mul_left, pow-succ', word-below k xs at b)

-- fewer than eight bytes, by two halves
pub word-halves : (xs : List ℕ) → AreBytes xs → 4 ≤ length xs → length xs < 8 →
    word 8 xs 0 ≡ word 4 xs 0 + 4294967296 * (word 4 xs (length xs - 4) / 2 ^ (8 * (8 - length xs)))
unfolding word
word-halves xs b h small = grind (arith, word-shift (8 - length xs) 4 xs (length xs - 4) 4)

-- the numbers that std reads, and the bytes that it writes
part : (n : ℕ) (xs : List ℕ) (at i : ℕ) → i < n → get_or (take n (drop at xs)) i 0 ≡ get_or xs (at + i) 0
part n xs at i h = get_or-take n (drop at xs) i 0 h ∙ get_or-drop at xs i 0

pub read-four : (xs : List ℕ) (at : ℕ) → from_le_bytes w32 (take 4 (drop at xs)) ≡ word 4 xs at
unfolding word
read-four xs at = search (rules, part)

pub read-eight : (xs : List ℕ) (at : ℕ) → from_le_bytes w64 (take 8 (drop at xs)) ≡ word 8 xs at
unfolding word
read-eight xs at = search (rules, part)

pub bytes-part : (n : ℕ) (xs : List ℕ) (at : ℕ) → AreBytes xs → AreBytes (take n (drop at xs))
bytes-part n xs at b i = grind (arith, common_steps, cases_lt, part, get_or_past, length-take)

pub length-part : (n : ℕ) (xs : List ℕ) (at : ℕ) → at + n ≤ length xs → length (take n (drop at xs)) ≡ n
length-part n xs at h = omega (arith, h, length-take n (drop at xs), length-drop at xs)

pub write-eight : (xs : List ℕ) (at : ℕ) → AreBytes xs → at + 8 ≤ length xs →
    to_le_bytes w64 (word 8 xs at) ≡ take 8 (drop at xs)
write-eight xs at b h = search (rules, le_bytes_8, length-part, bytes-part, read-eight)

-- bytes with zeros behind them
get_or-zeros : (xs : List ℕ) (m k : ℕ) → get_or (xs ++ replicate m 0) k 0 ≡ get_or xs k 0
get_or-zeros [] (suc m) (suc k) = get_or-zeros [] m k
get_or-zeros (x ∷ xs) m (suc k) = get_or-zeros xs m k
get_or-zeros xs m k = refl

-- bytes, and zeros after them up to the place of the length, and there
abbrev pub with_zeros : List ℕ → List ℕ
with_zeros bytes = bytes ++ replicate (INLINE_CAP + 1 - length bytes) 0

length-with_zeros : (bytes : List ℕ) → length bytes ≤ INLINE_CAP → length (with_zeros bytes) ≡ INLINE_CAP + 1
length-with_zeros bytes h = simp (length-append, length-replicate) (omega (arith, h))

word-same : (k : ℕ) (xs ys : List ℕ) (at : ℕ) → ((j : ℕ) → get_or xs j 0 ≡ get_or ys j 0) → word k xs at ≡ word k ys at
unfolding word
word-same zero xs ys at h = refl
word-same (suc k) xs ys at h = rw (h (at + k), word-same k xs ys at h)

-- the step of a loop that packs
take-end : (xs ys zs : List ℕ) (n m : ℕ) → length xs ≡ n → length ys ≡ m → take (n + m) (xs ++ (ys ++ zs)) ≡ xs ++ ys
take-end xs ys zs n m e f = rw (← e) (take-append-add xs (ys ++ zs) m ∙ ap (λ t. xs ++ t) (take_at ys zs m f))

word-with_zeros : (bytes : List ℕ) (at n : ℕ) → AreBytes bytes → length bytes ≤ INLINE_CAP →
    at + 8 ≤ INLINE_CAP + 1 → n ≡ word 8 bytes at → to_le_bytes w64 n ≡ take 8 (drop at (with_zeros bytes))
word-with_zeros bytes at n b h within e =
    let zeros = λ (i : ℕ). get_or-zeros bytes (INLINE_CAP + 1 - length bytes) i in
    let eight = write-eight (with_zeros bytes) at (λ i. rw (zeros i) (b i)) in
    search (rules, arith, eight, length-with_zeros, word-same 8 (with_zeros bytes) bytes at zeros)

pub pack-step : (new old bytes : List ℕ) (at n : ℕ) → AreBytes bytes → length bytes ≤ INLINE_CAP →
    at + 8 ≤ INLINE_CAP + 1 → at + 8 ≤ length old → take at old ≡ take at (with_zeros bytes) → n ≡ word 8 bytes at →
    new ≡ put_at old at (to_le_bytes w64 n) → take (at + 8) new ≡ take (at + 8) (with_zeros bytes)
pack-step new old bytes at n b h within long front e put = grind (arith, common_steps, word-with_zeros, take-end, length-take-le, take-add)

-- its end: all words are written, and then the length
pub all-with_zeros : (buf bytes : List ℕ) → length buf ≡ INLINE_CAP + 1 → length bytes ≤ INLINE_CAP →
    take (INLINE_CAP + 1) buf ≡ take (INLINE_CAP + 1) (with_zeros bytes) → buf ≡ with_zeros bytes
all-with_zeros buf bytes long h e =
    let size = length-with_zeros bytes h in
    cc (take_all (INLINE_CAP + 1) buf (omega arith), take_all (INLINE_CAP + 1) (with_zeros bytes) (omega arith))

pub pack-end : (buf bytes : List ℕ) → length bytes ≤ INLINE_CAP → buf ≡ with_zeros bytes →
    set buf INLINE_CAP (length bytes) ≡ packed bytes
pack-end buf bytes h all =
    let more : INLINE_CAP + 1 - length bytes ≡ (INLINE_CAP - length bytes) + 1 = omega (arith, h) in
    rw (all, more, ← replicate_more, ← append_assoc)
    (set_at (padded bytes) 0 [] (length bytes) INLINE_CAP (length-padded bytes h))

-- at most eight bytes, by one word over zeros
pub one-word : (buf bytes : List ℕ) (n : ℕ) → AreBytes bytes → length bytes ≤ 8 → n ≡ word 8 bytes 0 →
    buf ≡ put_at (replicate (INLINE_CAP + 1) 0) 0 (to_le_bytes w64 n) → buf ≡ with_zeros bytes
one-word buf bytes n b h e put =
    let m = INLINE_CAP + 1 - length bytes in
    let eight = word-with_zeros bytes 0 n b (omega arith) (omega arith) e in
    let split : length bytes + (8 - length bytes) ≡ 8 = omega (arith, h) in
    let left : m - (8 - length bytes) ≡ INLINE_CAP + 1 - 8 = omega (arith, h) in
    let behind = drop-append-add bytes (replicate m 0) (8 - length bytes) in
    search (rules, arith, eight, behind, drop-replicate, take-append-drop 8 (with_zeros bytes))

-- one word of two lists
same-word : (xs ys : List ℕ) (at : ℕ) → take (at + 8) xs ≡ take (at + 8) ys →
    (take at xs ≡ take at ys) × (word 8 xs at ≡ word 8 ys at)
same-word xs ys at e = (
  cc (take-take at (at + 8) xs (omega arith), take-take at (at + 8) ys (omega arith)),
  cc (drop-take at 8 xs, drop-take at 8 ys, read-eight xs at, read-eight ys at),
)

pub more-same : (xs ys : List ℕ) (at : ℕ) → AreBytes xs → AreBytes ys → at + 8 ≤ length xs → at + 8 ≤ length ys →
    take at xs ≡ take at ys → word 8 xs at ≡ word 8 ys at → take (at + 8) xs ≡ take (at + 8) ys
more-same xs ys at b c h k front same =
    cc (take-add at 8 xs, take-add at 8 ys, write-eight xs at b h, write-eight ys at c k)

-- the step of a loop that compares
pub same-step : (xs ys : List ℕ) (at : ℕ) → AreBytes xs → AreBytes ys → at + 8 ≤ length xs → at + 8 ≤ length ys →
    (pointwise nat_eq (take at xs) (take at ys) && nat_eq (word 8 xs at) (word 8 ys at)) ≡ pointwise nat_eq
    (take (at + 8) xs) (take (at + 8) ys)
same-step xs ys at b c h k = grind (arith, common_steps, Decides-and, bytes_decides, Decides-eqb, same_from_decides, Decides-like, more-same, same-word)

-- bytes of one length by words: a word more, and the last, which may overlap the others
pub same-last : (xs ys : List ℕ) (at last : ℕ) → AreBytes xs → AreBytes ys → length xs ≡ length ys →
    last + 8 ≡ length xs → last ≤ at → take at xs ≡ take at ys → word 8 xs last ≡ word 8 ys last → xs ≡ ys
same-last xs ys at last b c long all so_far front same =
    grind (arith, more-same xs ys last b c, take-take {A = ℕ} last at, take_all {A = ℕ})

-- what a comparison finds
pub same_from : (found : Bool) (xs ys : List ℕ) → (found ≡ true → xs ≡ ys) → (xs ≡ ys → found ≡ true) →
    found ≡ pointwise nat_eq xs ys
same_from found xs ys same found_so = same_from_decides found (pointwise nat_eq xs ys) (same, found_so) (bytes_decides xs ys)

-- a character's bytes
pub bytes-encode : (c : ℕ) → c < 1114112 → AreBytes (encode c)
bytes-encode c h i = search (rules, form)

-- the first k bytes and the last, which may overlap, are all
drop-end : (xs ys zs : List ℕ) (n m : ℕ) → length xs ≡ n → length ys ≡ m → drop (n + m) (xs ++ (ys ++ zs)) ≡ zs
drop-end xs ys zs n m e f = cc (drop-drop m n (xs ++ (ys ++ zs)), drop_at xs (ys ++ zs) n e, drop_at ys zs m f)

front-end : (r bytes : List ℕ) (s k m : ℕ) → length bytes ≡ m + k → m ≤ k → s ≤ length r →
    take (s + m) (take s r ++ (take k bytes ++ drop k (drop s r))) ≡ take s r ++ take m bytes
front-end r bytes s k m e h l = grind (arith, common_steps, length-take-le, part, take-append-add, take-append-le, take-take)

back-end : (r bytes : List ℕ) (s k m : ℕ) → length bytes ≡ m + k → s ≤ length r →
    drop k (drop (s + m) (take s r ++ (take k bytes ++ drop k (drop s r)))) ≡ drop (s + length bytes) r
back-end r bytes s k m e l =
    let turn : (s + m) + k ≡ (s + k) + m = omega arith in
    let all : s + (k + m) ≡ s + length bytes = omega (arith, e) in
    let part = length-take-le k bytes (omega (arith, e)) in
    let read = drop-end (take s r) (take k bytes) (drop k (drop s r)) s k (length-take-le s r l) part in
    rw (drop-drop k (s + m), turn, ← drop-drop m (s + k), read, drop-drop m k (drop s r), drop-drop (k + m) s r, all)

pub two-ends : (r bytes y z : List ℕ) (s k m a b : ℕ) → length bytes ≡ m + k → m ≤ k → s ≤ length r →
    y ≡ take k bytes → z ≡ drop m bytes → a ≡ k → b ≡ k →
    take (s + m) (take s r ++ (y ++ drop a (drop s r))) ++
    (z ++ drop b (drop (s + m) (take s r ++ (y ++ drop a (drop s r))))) ≡ put_at r s bytes
two-ends r bytes y z s k m a b e h l f g p q =
    let apart = append_assoc (take s r) (take m bytes) (drop m bytes ++ drop (s + length bytes) r) in
    let whole = append_assoc (take m bytes) (drop m bytes) (drop (s + length bytes) r) in
    cc (front-end r bytes s k m e h l, back-end r bytes s k m e l, apart, whole, take-append-drop m bytes)

-- what is copied behind a front that is there
pub copy-step : (new old bytes : List ℕ) (at k : ℕ) → at + k ≤ length bytes → at + k ≤ length old →
    take at old ≡ take at bytes → new ≡ put_at old at (take k (drop at bytes)) →
    take (at + k) new ≡ take (at + k) bytes
copy-step new old bytes at k within long front put = search (rules, length-part, take-end, length-take-le, take-add)

-- a block more, or all is there
pub block-step : (new old bytes : List ℕ) (at : ℕ) → length bytes ≡ PACKED_LEN → length old ≡ PACKED_LEN → take at old ≡ take at bytes
    → (at + 16 ≤ PACKED_LEN → new ≡ put_at old at (take 16 (drop at bytes))) → (PACKED_LEN < at + 16 → new ≡ old)
    → (PACKED_LEN < at + 16 → PACKED_LEN ≤ at) → take (at + 16) new ≡ take (at + 16) bytes
block-step new old bytes at long same front within past all = ⊎_elim
    (λ g. let more = all g in
    let had = take_all at old (omega (arith, same)) in
    let has = take_all at bytes (omega (arith, long)) in
    cc (past g, take_all (at + 16) old (omega (arith, same)), take_all (at + 16) bytes (omega (arith, long)), front, had, has))
    (λ l. copy-step new old bytes at 16 (omega (arith, long)) (omega (arith, same)) front (within l))
    (cases_lt PACKED_LEN (at + 16))
