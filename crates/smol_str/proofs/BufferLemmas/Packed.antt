-- For `InlineText` and equality: a short text in its buffer, with its length behind it.
use Rattle.smol_str.proofs.Common.{◌≡◌, sym, ◌∙◌, ap, refl, ◌↔◌, Bool, IsTrue, rules, ℕ, ◌+◌, ◌-◌, ◌≤◌, arith, nat_eq, List, [], ◌∷◌, ◌++◌, length, take, drop, set, get_or, replicate, append_assoc, length-append, pointwise, bytes_decides, drop-drop, drop-replicate, take_at, drop_at, get_or_at, set_at, length-replicate, drop-append-le, common_steps}
use Rattle.smol_str.proofs.Common.{encode_utf8_all, chars, IsUtf8, encodes-chars, encodes_same, chars-append, IsUtf8-append, INLINE_CAP, size, IsShort, IsPacked, HaveOneBuffer, padded, packed, unpacked, put_at}

pub length-padded : (bytes : List ℕ) → length bytes ≤ INLINE_CAP → length (padded bytes) ≡ INLINE_CAP
length-padded bytes h = omega (arith, length-append {A = ℕ}, length-replicate {A = ℕ} (INLINE_CAP - length bytes) 0)

-- what is packed can be read back
pub last-packed : (bytes : List ℕ) → length bytes ≤ INLINE_CAP → get_or (packed bytes) INLINE_CAP 0 ≡ length bytes
last-packed bytes h = get_or_at (padded bytes) (length bytes) [] 0 INLINE_CAP (length-padded bytes h)

behind : List ℕ → List ℕ
behind bytes = replicate (INLINE_CAP - length bytes) 0 ++ (length bytes ∷ [])

packed-behind : (bytes : List ℕ) → packed bytes ≡ bytes ++ behind bytes
unfolding behind
packed-behind bytes = append_assoc bytes (replicate (INLINE_CAP - length bytes) 0) (length bytes ∷ [])

front-packed : (bytes : List ℕ) → take (length bytes) (packed bytes) ≡ bytes
front-packed bytes = ap (take (length bytes)) (packed-behind bytes) ∙ take_at bytes (behind bytes) (length bytes) refl

pub unpacked-packed : (all bytes : List ℕ) → length bytes ≤ INLINE_CAP → all ≡ packed bytes → unpacked all ≡ bytes
unpacked-packed all bytes h e = search (rules, arith, last-packed, front-packed)

pub IsPacked-packed : (all bytes : List ℕ) → IsUtf8 bytes → length bytes ≤ INLINE_CAP → all ≡ packed bytes →
    IsPacked all
IsPacked-packed all bytes u h e = search (rules, arith, unpacked-packed)

-- the length is the size of the text
pub len-bytes : (all : List ℕ) → IsPacked all → get_or all INLINE_CAP 0 ≡ length (unpacked all)
len-bytes all h = ap (λ r. get_or r INLINE_CAP 0) h.reads ∙ last-packed (unpacked all) h.within

pub len-size : (all t : List ℕ) → IsPacked all → chars (unpacked all) ≡ t → get_or all INLINE_CAP 0 ≡ size t
len-size all t h e = rw (← e, encodes-chars (unpacked all) h.utf8) (len-bytes all h)

pub IsShort-packed : (all : List ℕ) → IsPacked all → IsShort (chars (unpacked all))
IsShort-packed all h = rw (encodes-chars (unpacked all) h.utf8) h.within

-- what follows an appended text: fewer zeros, and the old length
drop-packed : (old : List ℕ) (m : ℕ) → length old + m ≤ INLINE_CAP →
    drop (length old + m) (packed old) ≡ replicate (INLINE_CAP - (length old + m)) 0 ++ (length old ∷ [])
unfolding behind
drop-packed old m h =
    let left : (INLINE_CAP - length old) - m ≡ INLINE_CAP - (length old + m) = omega arith in
    let n : ℕ = INLINE_CAP - length old in
    let zeros = drop-append-le m (replicate {A = ℕ} n 0) (length old ∷ []) (omega (arith, length-replicate {A = ℕ} n 0)) in
    let front = drop_at old (behind old) (length old) refl in
    cc (drop-drop m (length old) (packed old), packed-behind old, front, zeros, drop-replicate {X = ℕ} m n 0)

put-packed : (old bytes : List ℕ) → length old + length bytes ≤ INLINE_CAP →
    set (put_at (packed old) (length old) bytes) INLINE_CAP (length old + length bytes) ≡ packed (old ++ bytes)
put-packed old bytes h = grind (arith, common_steps, length-append, length-padded, append_assoc, front-packed, drop-packed, set_at)

-- after a text was appended: its bytes behind the others, and then the length
module _ (n : ℕ) (old mid bytes t : List ℕ) (h : IsPacked old) (e : chars (unpacked old) ≡ t) (is : n ≡ size t)
    (u : IsUtf8 bytes) (room : n + length bytes ≤ INLINE_CAP) (put : mid ≡ put_at old n bytes) where
  at : n ≡ length (unpacked old)
  at = is ∙ sym (len-size old t h e) ∙ len-bytes old h

  within : length (unpacked old ++ bytes) ≤ INLINE_CAP
  within = rw (length-append, ← at) room

  appended : set mid INLINE_CAP (n + length bytes) ≡ packed (unpacked old ++ bytes)
  appended = grind (arith, common_steps, at, length-append, put-packed)

  pub IsPacked-append : IsPacked (set mid INLINE_CAP (n + length bytes))
  IsPacked-append = search (rules, IsPacked-packed, IsUtf8-append, within, appended)

  pub view-append : chars (unpacked (set mid INLINE_CAP (n + length bytes))) ≡ t ++ chars bytes
  view-append =
      cc (unpacked-packed _ (unpacked old ++ bytes) within appended, chars-append (unpacked old) bytes h.utf8)

-- the whole buffer
pub buffer-padded : (all : List ℕ) → IsPacked all →
    take INLINE_CAP all ≡ padded (encode_utf8_all (chars (unpacked all)))
buffer-padded all h =
    let front = take_at (padded (unpacked all)) (length (unpacked all) ∷ []) INLINE_CAP (length-padded (unpacked all) h.within) in
    cc (h.reads, front, encodes-chars (unpacked all) h.utf8)

-- two short texts are equal exactly where all that is packed is
pub same-texts : (xs ys : List ℕ) → IsPacked xs → IsPacked ys →
    IsTrue (pointwise nat_eq xs ys) ↔ (chars (unpacked xs) ≡ chars (unpacked ys))
same-texts xs ys h k =
    let s = encodes-chars (unpacked xs) h.utf8 in
    let t = encodes-chars (unpacked ys) k.utf8 in (
      (λ b. let same : xs ≡ ys = (bytes_decides xs ys).0 b in rw same),
      (λ e. (bytes_decides xs ys).1 (cc (h.reads, k.reads, s, t))),
    )

-- texts are equal exactly where their sizes and padded buffers are
pub padded-same : (s t : List ℕ) → size s ≡ size t → padded (encode_utf8_all s) ≡ padded (encode_utf8_all t) → s ≡ t
padded-same s t e h =
    let left = take_at (encode_utf8_all s) (replicate (INLINE_CAP - size s) 0) (size s) refl in
    let right = take_at (encode_utf8_all t) (replicate (INLINE_CAP - size t) 0) (size s) (sym e) in
    encodes_same s t (cc)

-- a test for equal texts tests the buffers
pub test-HaveOneBuffer : (b : Bool) (s t : List ℕ) → IsTrue b ↔ (s ≡ t) → IsTrue b ↔ HaveOneBuffer s t
test-HaveOneBuffer b s t h = search (rules, arith, padded-same, h)
