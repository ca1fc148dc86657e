-- For ASCII case, in texts, bytes and short texts as they are packed; and for what else maps ASCII characters alone.
use Rattle.smol_str.proofs.Common.{◌≡◌, ◌&&◌, Bool, true, false, cond, refl, ap, ◌∙◌, rules, ◌↔◌, IsTrue, MatchBool, sym, ⊎_elim, ℕ, ◌+◌, ◌<◌, arith, le-ltb, ltb-true, ltb-false, cases_lt, nat_tests, ◌-◌, ◌≤◌, put_chunk, put_chunk_is, and_parts}
use Rattle.smol_str.proofs.Common.{List, [], ◌∷◌, ◌++◌, map, length-append, All, All-head, All-tail, All-map, All-from_get_or, get_or, common_steps, length, take, drop, take-add, length-take-le, length-drop, take-append-drop, slice_range, map-append, take_all, length-map, append_assoc, append-nil, replicate, take_at, drop_at, drop_all, All-replicate, get_or-drop, All-nil, All-cons}
use Rattle.smol_str.proofs.Common.{is_ascii, encode_utf8_all, encode, lowercase_is, uppercase_is, IsUtf8, IsCharBoundary, IsAscii, IsNotAscii, chars, IsAscii-append, IsAscii-take, IsAscii-drop, IsUtf8-from_ascii, IsUtf8-drop, IsCharBoundary-from_take, chars-append, chars-IsAscii, encodes-chars, IsAscii-map, lowercase_ascii, uppercase_ascii, IsAscii-from_all, encodes-IsAscii, scalar, scalars, chars-encodes}
use Rattle.smol_str.proofs.Common.{scalars-chars, IsAscii-push, IsAscii-more, length-le-encodes, All-from_ascii, size, front, IsAsciiText, BeginsPastAscii, AsciiCase, converted, IsAsciiFront, INLINE_CAP, IsPacked, packed, unpacked, letter}
use Rattle.std.proofs.Common.{true≢false}
use Rattle.std.proofs.lemmas.List.Sums.{take_while-cons}
use Rattle.smol_str.proofs.TextLemmas.Utf8.{Form, form, is_one}
use Rattle.smol_str.proofs.BufferLemmas.Packed.{IsPacked-packed, unpacked-packed}

-- what holds of each character holds of the text
pub map-map : (f g h : ℕ → ℕ) → ((c : ℕ) → f (g c) ≡ h c) → (t : List ℕ) → map f (map g t) ≡ map h t
map-map f g h same [] = refl
map-map f g h same (c ∷ t) = λ i. same c i ∷ map-map f g h same t i

pub map-unchanged : (f : ℕ → ℕ) (P : ℕ → Type 0) → ((c : ℕ) → ¬ P c → f c ≡ c) → (t : List ℕ)
    → All (λ c. ¬ P c) t → map f t ≡ t
map-unchanged f P same [] h = refl
map-unchanged f P same (c ∷ t) h =
    search (rules, All-head, map-unchanged f P same t (All-tail (λ d. ¬ P d) c t h))

pub All-mapped : (f : ℕ → ℕ) (P : ℕ → Type 0) → ((c : ℕ) → P (f c)) → (t : List ℕ) → All P (map f t)
All-mapped f P each t = All-map P f t (All-from_get_or (λ c. P (f c)) t 0 (λ i _. each (get_or t i 0)))

-- the front is what comes before the first character past ASCII
pub front-append : (a r : List ℕ) → IsAsciiText a → BeginsPastAscii r → front (a ++ r) ≡ a
front-append [] [] low past = refl
front-append [] (d ∷ r) low past = rw (take_while-cons is_ascii d r, le-ltb d 0x80 past)
front-append (c ∷ a) r low past =
    let rest = front-append a r (All-tail (λ d. d < 0x80) c a low) past in
    grind (arith, nat_tests, take_while-cons is_ascii c (a ++ r), All-head (λ d. d < 0x80) c a low)

-- a text is its front and what follows
abbrev Parts : List ℕ → List ℕ → Type 0
Parts t a = (r : List ℕ) × (t ≡ a ++ r) × IsAsciiText a × BeginsPastAscii r

parts_more : (c : ℕ) (t : List ℕ) → Parts t (front t) → (b : Bool) → is_ascii c ≡ b →
    Parts (c ∷ t) (cond b (c ∷ front t) [])
parts_more c t (r, whole, low, past) true e = search (rules, All-cons, ltb-true)
parts_more c t parts false e = (c ∷ t, refl, All-nil (λ d. d < 0x80), ltb-false c 0x80 e)

pub front-parts : (t : List ℕ) → Parts t (front t)
front-parts [] = ([], refl, All-nil (λ d. d < 0x80), tt)
front-parts (c ∷ t) = rw (take_while-cons is_ascii c t) (parts_more c t (front-parts t) (is_ascii c) refl)

-- a front that is ASCII, and more of it
pub ascii-more : (bytes : List ℕ) (at n : ℕ) (lanes : List ℕ) → lanes ≡ take n (drop at bytes)
    → IsAscii lanes → IsAscii (take at bytes) → IsAscii (take (at + n) bytes)
ascii-more bytes at n lanes is low front = grind (arith, common_steps, take-add, IsAscii-append)

pub ruleset ascii_fronts = (IsAscii-more, ascii-more)

-- bytes are ASCII exactly where their characters are
pub IsAscii-chars : (bs : List ℕ) → IsUtf8 bs → IsAscii bs ↔ IsAsciiText (chars bs)
IsAscii-chars bs u = (
  λ low. rw (chars-IsAscii bs low) (All-from_ascii bs low),
  λ text. let low = IsAscii-from_all (chars bs) text in rw (← encodes-chars bs u, encodes-IsAscii (chars bs) low) low,
)

pub ascii-told : (b : Bool) (bytes : List ℕ) → MatchBool b (IsAscii bytes) (IsNotAscii bytes)
    → IsAscii bytes → IsTrue b
ascii-told b bytes told ascii = search rules

-- a character whose bytes begin past ASCII
begins_past : (t : List ℕ) → (0 < length (encode_utf8_all t) → 128 ≤ get_or (encode_utf8_all t) 0 0) → BeginsPastAscii t
begins_past t h = search (rules, form, length-le-encodes)

pub from_start : (xs : List ℕ) (n : ℕ) → slice_range xs 0 n ≡ take n xs
from_start xs n = search rules

-- the first bytes are the front, where what follows begins past ASCII
module _ (text : List ℕ) (at : ℕ) (u : IsUtf8 text) (f : IsAsciiFront text at)
    (stops : at < length text → 128 ≤ get_or text at 0) where
  pub front-boundary_at : IsCharBoundary text at
  front-boundary_at = search (rules, IsCharBoundary-from_take, IsUtf8-from_ascii)

  front-done : front (chars text) ≡ take at text
  front-done =
      let low = chars-append (take at text) (drop at text) (IsUtf8-from_ascii (take at text) f.low) in
      let parts = rw (take-append-drop at text, chars-IsAscii (take at text) f.low) at low in
      let same = encodes-chars (drop at text) (IsUtf8-drop text at u front-boundary_at) in
      let begins = begins_past (chars (drop at text)) (rw same (λ some. grind (arith, get_or-drop, length-drop))) in
      ap front parts ∙ front-append (take at text) (chars (drop at text)) (All-from_ascii (take at text) f.low) begins

  pub front-text : chars (slice_range text 0 at) ≡ front (chars text)
  front-text = rw from_start (chars-IsAscii (take at text) f.low ∙ sym front-done)

  pub front-length : at ≡ length (front (chars text))
  front-length = sym (length-take-le at text f.inside) ∙ ap length (sym front-done)

pub ruleset front_of_bytes = (front-boundary_at, front-text, front-length)

-- ---- bytes mapped in place

-- what is before a place is mapped, and what is behind it is as it was
pub record IsMapping (f : ℕ → ℕ) (old bytes : List ℕ) (at : ℕ) : Type 0 where
  pub inside : at ≤ length bytes
  pub maps : take at bytes ++ map f (drop at bytes) ≡ map f old

module _ (f : ℕ → ℕ) (old bytes : List ℕ) (at : ℕ) (h : IsMapping f old bytes at) where
  -- n bytes more
  pub mapping-more : (n : ℕ) (new v : List ℕ) → at + n ≤ length bytes → v ≡ map f (take n (drop at bytes))
      → new ≡ put_chunk at bytes v → IsMapping f old new (at + n)
  mapping-more n new v room is put =
      let long : length v ≡ n = rw (is, length-map) (length-take-le n (drop at bytes) (omega (arith, length-drop at bytes))) in
      let both : length (take at bytes ++ v) ≡ at + n = grind (arith, length-append, length-take-le) in
      let whole : new ≡ (take at bytes ++ v) ++ drop n (drop at bytes) = grind (arith, put_chunk_is, append_assoc) in
      let maps : take (at + n) new ++ map f (drop (at + n) new) ≡ map f old =
      rw (whole, take_at, drop_at, append_assoc, is, ← map-append, take-append-drop) h.maps in
      search (rules, arith, whole, length-append, maps)

  -- the rest of the bytes, all at once
  pub mapping-rest : (k : ℕ) (new : List ℕ) → k ≡ length bytes - at → new ≡ map f (take k (drop at bytes))
      → take at bytes ++ (new ++ drop k (drop at bytes)) ≡ map f old
  mapping-rest k new e is = search (rules, arith, length-drop, take_all, drop_all, append-nil)

pub ruleset mappings = (mapping-more, mapping-rest)

-- ---- bytes and characters

-- ASCII goes to ASCII, and all else stays
pub record MovesAscii (f : ℕ → ℕ) : Type 0 where
  pub low : (c : ℕ) → c < 128 → f c < 128
  pub others : (c : ℕ) → 128 ≤ c → f c ≡ c

scalar_below : (y : ℕ) → y < 128 → scalar y ≡ true
scalar_below y small = grind (arith, nat_tests)

module _ (f : ℕ → ℕ) (m : MovesAscii f) where
  encode-map : (c : ℕ) → Form c → encode (f c) ≡ map f (encode c)
  encode-map c h = search (rules, is_one)

  encodes-map : (t : List ℕ) → encode_utf8_all (map f t) ≡ map f (encode_utf8_all t)
  encodes-map [] = refl
  encodes-map (c ∷ t) = search (rules, encode-map, form, map-append, encodes-map t)

  scalar-map : (c : ℕ) → scalar c ≡ true → scalar (f c) ≡ true
  scalar-map c h = search (rules, arith, scalar_below)

  scalars-map : (t : List ℕ) → scalars t ≡ true → scalars (map f t) ≡ true
  scalars-map [] h = refl
  scalars-map (c ∷ t) h = search (rules, and_parts, scalar-map, scalars-map t)

  module _ (bs : List ℕ) (u : IsUtf8 bs) where
    encodes-mapped : encode_utf8_all (map f (chars bs)) ≡ map f bs
    encodes-mapped = encodes-map (chars bs) ∙ ap (map f) (encodes-chars bs u)

    pub IsUtf8-map : IsUtf8 (map f bs)
    IsUtf8-map = (map f (chars bs), (scalars-map (chars bs) (scalars-chars bs u), encodes-mapped))

    pub chars-map : chars (map f bs) ≡ map f (chars bs)
    chars-map = ap chars (sym encodes-mapped) ∙ chars-encodes (map f (chars bs)) (scalars-map (chars bs) (scalars-chars bs u))

    pub size-mapped : size (map f (chars bs)) ≡ length bs
    size-mapped = ap length encodes-mapped ∙ length-map bs f

-- of what is packed, zeros and the length are not letters
map-zeros : (f : ℕ → ℕ) → f 0 ≡ 0 → (n : ℕ) → map f (replicate n 0) ≡ replicate n 0
map-zeros f e n =
    map-unchanged f (λ c. 0 < c) (λ c h. grind arith) (replicate n 0)
    (All-replicate (λ c. ¬ (0 < c)) n 0 (omega arith))

map-packed : (f : ℕ → ℕ) → f 0 ≡ 0 → (bytes : List ℕ) → f (length bytes) ≡ length bytes →
    map f (packed bytes) ≡ packed (map f bytes)
map-packed f e bytes h = grind (arith, common_steps, map-append, map-zeros, length-map)

-- ---- case

letter-moves : (case : AsciiCase) → MovesAscii (letter case)
letter-moves case = search (rules, lowercase_ascii, lowercase_is, uppercase_ascii, uppercase_is)

pub size-converted : (case : AsciiCase) (t : List ℕ) → size (converted case t) ≡ size t
size-converted case t = search (rules, encodes-map, letter-moves, length-map)

pub IsAscii-converted : (case : AsciiCase) (a : List ℕ) → IsAscii a → IsAscii (converted case a)
IsAscii-converted case a h = IsAscii-map (letter case) a (letter-moves case).low h

letter-low : (case : AsciiCase) (n : ℕ) → n < 65 → letter case n ≡ n
letter-low case n h = search (rules, lowercase_is, uppercase_is)

pub chars-converted : (case : AsciiCase) (bs : List ℕ) → IsUtf8 bs →
    chars (converted case bs) ≡ converted case (chars bs)
chars-converted case bs u = chars-map (letter case) (letter-moves case) bs u

module _ (case : AsciiCase) (old buf : List ℕ) (h : IsPacked old) (e : buf ≡ converted case old) where
  whole : buf ≡ packed (converted case (unpacked old))
  whole =
      e ∙ ap (converted case) h.reads
      ∙ map-packed (letter case) (letter-low case 0 (omega arith)) (unpacked old) (letter-low case (length (unpacked old)) (omega (arith, h.within)))

  within : length (converted case (unpacked old)) ≤ INLINE_CAP
  within = omega (arith, length-map (unpacked old) (letter case))

  pub IsPacked-converted : IsPacked buf
  IsPacked-converted = search (rules, IsPacked-packed, IsUtf8-map (letter case) (letter-moves case), within, whole)

  pub text-converted : chars (unpacked buf) ≡ converted case (chars (unpacked old))
  text-converted = search (rules, unpacked-packed, within, whole, chars-converted)

-- bytes are ASCII where both parts of a cut are
module _ (n : ℕ) (bs front back : List ℕ) (is_front : front ≡ take n bs) (is_back : back ≡ drop n bs) where
  pub IsAscii-cut : (a b : Bool) → IsTrue a ↔ IsAscii front → IsTrue b ↔ IsAscii back → IsTrue (a && b) ↔ IsAscii bs
  IsAscii-cut true true first last =
      let low = IsAscii-append _ _ (rw is_front at (first.0 refl)) (rw is_back at (last.0 refl)) in
      (λ _. rw (take-append-drop n bs) at low, λ _. refl)
  IsAscii-cut true false first last = (λ no. absurd (true≢false (sym no)), λ low. last.1 (rw is_back (IsAscii-drop bs n low)))
  IsAscii-cut false b first last = (λ no. absurd (true≢false (sym no)), λ low. first.1 (rw is_front (IsAscii-take bs n low)))

-- what is packed is ASCII exactly where the text is
pub IsAscii-packed : (all : List ℕ) → IsPacked all → IsAscii all ↔ IsAsciiText (chars (unpacked all))
IsAscii-packed all h =
    let bytes = unpacked all in
    let zeros = IsAscii-from_all _ (All-replicate (λ b. b < 128) (INLINE_CAP - length bytes) 0 (omega arith)) in
    let text = IsAscii-chars bytes h.utf8 in (
      λ low. text.0 (IsAscii-take all (get_or all INLINE_CAP 0) low),
      λ low. rw h.reads (IsAscii-push _ (length bytes) (IsAscii-append bytes _ (text.1 low) zeros) (omega arith)),
    )
