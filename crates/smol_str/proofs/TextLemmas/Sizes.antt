-- A text's size, and which texts are short.
use Rattle.smol_str.proofs.Common.{◌≡◌, ap, ◌↔◌, ⊎_elim, ℕ, ◌+◌, ◌<◌, ◌≤◌, arith, cases_lt, nil_from_length, List, [], ◌∷◌, ◌++◌, length, length-append, append-nil}
use Rattle.smol_str.proofs.Common.{encode_utf8, encode_utf8_all, length-le-encodes, chars, IsUtf8, encodes-chars, encodes-append, length-encode, len_utf8_bounds, IsUtf8-string_bytes, INLINE_CAP, size, IsShort}

-- a text's size is its number of bytes
pub size-chars : (bs : List ℕ) → IsUtf8 bs → size (chars bs) ≡ length bs
size-chars bs u = ap length (encodes-chars bs u)

pub ruleset sizes = (size-chars, IsUtf8-string_bytes)

-- a pattern that is not empty has a character
pub some_char : (nd : List ℕ) → IsUtf8 nd → 0 < length nd → 0 < length (chars nd)
some_char nd u some =
    ⊎_elim (λ l. l)
    (λ none. absurd (omega (arith, size-chars nd u, ap size (nil_from_length (chars nd) (omega arith)))))
    (cases_lt 0 (length (chars nd)))

-- a text of no bytes is the empty one
pub no-bytes : {P : Type 0} (t : List ℕ) → (P ↔ (size t ≡ 0)) → (P ↔ (t ≡ []))
no-bytes t h = (λ p. nil_from_length t (omega (arith, h.0 p, length-le-encodes t)), λ e. h.1 (ap size e))

pub IsShort-chars : (bs : List ℕ) → IsUtf8 bs → length bs ≤ INLINE_CAP → IsShort (chars bs)
IsShort-chars bs u h = rw (encodes-chars bs u) h

-- the size of two texts, one after the other
pub size-append : (s t : List ℕ) → size (s ++ t) ≡ size s + size t
size-append s t = rw (encodes-append s t) (length-append (encode_utf8_all s) (encode_utf8_all t))

-- the bytes of a character
pub short_encode : (c : ℕ) → length (encode_utf8 c) ≤ INLINE_CAP
short_encode c = let few = len_utf8_bounds c in omega (arith, length-encode c, few.1)

pub IsShort-one : (c : ℕ) → IsShort (c ∷ [])
IsShort-one c = rw (append-nil (encode_utf8 c)) (short_encode c)

-- each front of a short text is short
pub IsShort-front : (s t : List ℕ) → IsShort (s ++ t) → IsShort s
IsShort-front s t short = omega (arith, short, size-append s t)
