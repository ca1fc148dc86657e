-- For `kernel::next_match`: the first place of a pattern's bytes is the first match of its characters.
use Rattle.smol_str.proofs.Common.{◌≡◌, ◌↔◌, Option, None, Some, refl, sym, ap, ◌∙◌, subst, same_Some, ⊎_elim, rules, ℕ, ◌+◌, ◌<◌, arith, cases_lt, ◌≤◌, ◌-◌, get_or, List, [], ◌++◌, length, take, drop, length-append, append_assoc, take-append-drop, length-take-le, take_at, drop_at, length-drop, take-append-le, common_steps}
use Rattle.smol_str.proofs.Common.{IsUtf8, chars, encode_utf8_all, encodes-append, encodes-chars, length-le-encodes, IsCharBoundary, IsCharBoundary-start, IsUtf8-drop, chars-append, size, Occurs, StandsAt, but_last, IsNextMatch, IsFirstAfter}
use Rattle.smol_str.specs.Needle.{needle_bytes, IsSoundNeedle}
use Rattle.smol_str.specs.declared.bytes.search.Needle.{Needle}
use Rattle.smol_str.specs.declared.bytes.search.Needle.TheVariants.{One, Two, Long}
use Rattle.memchr.specs.Find.{OccursAt, FindsNeedle, is_byte, IsFirstByte}
use Rattle.memchr.proofs.lemmas.FindLemmas.{OccursAt-byte, byte-OccursAt}
use Rattle.memchr.proofs.lemmas.MatchLemmas.{OccursAt-split, OccursAt-from_part}
use Rattle.smol_str.proofs.TextLemmas.Sizes.{size-append, size-chars, some_char}
use Rattle.smol_str.proofs.CutLemmas.Cut.{last_part, one_first, sooner}
use Rattle.smol_str.proofs.CutLemmas.Sync.{StandsAt-bytes}
use Rattle.smol_str.proofs.TextLemmas.Split.{boundary-parts, drop-parts, chars-take, chars-drop}
use Rattle.std.proofs.lemmas.Str.{IsUtf8-take}

-- a needle is a text that is not empty
pub sound-utf8 : (n : Needle) → IsSoundNeedle n → IsUtf8 (needle_bytes n)
sound-utf8 (One byte) sound = sound
sound-utf8 (Two bytes) sound = sound.0
sound-utf8 (Long search) sound = sound.0

pub sound-some : (n : Needle) → IsSoundNeedle n → 0 < length (needle_bytes n)
sound-some (One byte) sound = omega arith
sound-some (Two bytes) sound = omega (arith, sound.1)
sound-some (Long search) sound = sound.1

-- one byte is found as a needle of one byte
pub one_byte : (hay nd : List ℕ) → length nd ≡ 1 → (r : Option ℕ) → IsFirstByte (is_byte (get_or nd 0 0)) hay r
    → FindsNeedle hay nd 0 r
one_byte hay nd one r f = grind (arith, common_steps, byte-OccursAt, OccursAt-byte)

-- where characters occur, their bytes do
chars_stand : (b p a r : List ℕ) → b ≡ a ++ (p ++ r) → OccursAt (encode_utf8_all b) (encode_utf8_all p) (size a)
chars_stand b p a r e = grind (arith, common_steps, encodes-append, OccursAt-from_part, length-append, drop_at, take_at)

-- a pattern that occurs in q and all of p but its last character occurs in b before q's end
pub earlier : (b p q r : List ℕ) → b ≡ q ++ (p ++ r) → 0 < length p → (o : Occurs p (q ++ but_last p))
    → (x : Occurs p b) × (size x.0 < size q)
earlier b p q r e some o =
    let u = o.0 in
    let k = drop (length u) q in
    let h = sooner p q r some o in
    let begins = take-append-le (length u) q (p ++ r) (omega (arith, h.1)) in
    let parts : q ≡ u ++ k =
    cc (take-append-drop (length u) q, begins, h.0, take_at u (p ++ (o.1 ++ (last_part p ++ r))) (length u) refl) in (
      (u, o.1 ++ (last_part p ++ r), e ∙ h.0),
      omega (arith, h.1, ap size parts, size-append u k, length-le-encodes k, length-drop (length u) q),
    )

-- what is before a match, the match and what is behind it
match-bytes : (hay nd : List ℕ) (k : ℕ) → OccursAt hay nd k → hay ≡ take k hay ++ (nd ++ drop (k + length nd) hay)
match-bytes hay nd k h = cc (take-append-drop k hay, OccursAt-split hay nd k h)

-- what a search in the bytes of b returns, with i bytes before them
module _ (a b p : List ℕ) (i : ℕ) where
  found_none : FindsNeedle (encode_utf8_all b) (encode_utf8_all p) 0 None → ¬ Occurs p b
  found_none f o = let at = chars_stand b p o.0 o.1 o.2 in f (size o.0) (omega arith) (omega arith) at

  found_some : (k : ℕ) → 0 < length p → size a ≡ i → FindsNeedle (encode_utf8_all b) (encode_utf8_all p) 0 (Some k)
      → IsNextMatch a b p (i + k)
  found_some k some n f =
      let bs = encode_utf8_all b in
      let h = StandsAt-bytes b p (take k bs) _ some (match-bytes bs (encode_utf8_all p) k f.1) in
      let long : size h.0 ≡ k = h.3 ∙ length-take-le k bs (omega arith) in
      let first : IsFirstAfter p h.0 = λ o.
      let x = earlier b p h.0 h.1 h.2 some o in
      f.0.before (size x.0.0) (omega arith) (omega arith) (chars_stand b p x.0.0 x.0.1 x.0.2) in
      search (rules, arith, h.2, first, size-append)

-- at most one place is that of the next match
pub one_next : (a b p : List ℕ) (i j : ℕ) → 0 < length p → IsNextMatch a b p i → IsNextMatch a b p j → i ≡ j
one_next a b p i j some h k = grind (arith, common_steps, one_first)

pub next-occurs : (a b p : List ℕ) (i : ℕ) → IsNextMatch a b p i → Occurs p b
next-occurs a b p i h = (h.before, h.after, h.reads)

-- what follows the first i bytes of a text, searched
module _ (bs nd : List ℕ) (i : ℕ) (u : IsUtf8 bs) (v : IsUtf8 nd) where
  pub Occurs-none : FindsNeedle (drop i bs) nd 0 None → (a b : List ℕ) → chars bs ≡ a ++ b → size a ≡ i
      → ¬ Occurs (chars nd) b
  Occurs-none f a b e n = found_none a b (chars nd) i (rw (← drop-parts bs a b i u e n, encodes-chars nd v) f)

  module _ (r : Option ℕ) (is : r ≡ None) (f : FindsNeedle (drop i bs) nd 0 None) where
    pub none_not_some : (a b : List ℕ) → chars bs ≡ a ++ b → size a ≡ i → (j : ℕ)
        → (r ≡ Some j) ↔ IsNextMatch a b (chars nd) j
    none_not_some a b e n j = search (rules, Occurs-none, next-occurs)

    pub none_exact : (a b : List ℕ) → chars bs ≡ a ++ b → size a ≡ i → (r ≡ None) ↔ (¬ Occurs (chars nd) b)
    none_exact a b e n = (λ _. Occurs-none f a b e n, λ _. is)

  module _ (some : 0 < length nd) (k : ℕ) (f : FindsNeedle (drop i bs) nd 0 (Some k)) where
    pub IsNextMatch-found : (a b : List ℕ) → chars bs ≡ a ++ b → size a ≡ i → IsNextMatch a b (chars nd) (i + k)
    IsNextMatch-found a b e n = search (rules, found_some, some_char, drop-parts, encodes-chars)

    pub some_exact : (a b : List ℕ) → chars bs ≡ a ++ b → size a ≡ i → (j : ℕ)
        → (Some (i + k) ≡ Some j) ↔ IsNextMatch a b (chars nd) j
    some_exact a b e n j =
        let h = IsNextMatch-found a b e n in
        let one = one_next a b (chars nd) (i + k) j (some_char nd v some) h in
        (λ s. rw (← same_Some (i + k) j s) h, λ m. ap Some (one m))

    pub some_not_none : (a b : List ℕ) → chars bs ≡ a ++ b → size a ≡ i
        → (Some (i + k) ≡ None) ↔ (¬ Occurs (chars nd) b)
    some_not_none a b e n = let o = next-occurs a b (chars nd) (i + k) (IsNextMatch-found a b e n) in search rules

-- a pattern whose bytes do not occur in a text's does not occur in the text
pub not_found : (bs nd : List ℕ) → IsUtf8 bs → IsUtf8 nd → FindsNeedle bs nd 0 None → ¬ Occurs (chars nd) (chars bs)
not_found bs nd u v f =
    found_none [] (chars bs) (chars nd) 0 (rw (encodes-chars bs u, encodes-chars nd v) f)

-- a pattern that occurs in the bytes of a text occurs at char boundaries
module _ (bs nd : List ℕ) (u : IsUtf8 bs) (v : IsUtf8 nd) (some : 0 < length nd) where
  pub StandsAt-parts : (x y : List ℕ) → bs ≡ x ++ (nd ++ y) → StandsAt (chars nd) (chars bs) (length x)
  StandsAt-parts x y e =
      StandsAt-bytes (chars bs) (chars nd) x y (some_char nd v some) (cc (encodes-chars bs u, encodes-chars nd v))

  -- where it occurs, a character begins, and another after it
  boundaries : (x y : List ℕ) → bs ≡ x ++ (nd ++ y) → (i : ℕ) → length x ≡ i
      → IsCharBoundary bs i × IsCharBoundary bs (i + length nd)
  boundaries x y e i long =
      let h = StandsAt-parts x y e in (
        boundary-parts bs h.0 (chars nd ++ h.1) i u h.2 (h.3 ∙ long),
        boundary-parts bs (h.0 ++ chars nd) h.1 (i + length nd) u (cc (h.2, append_assoc h.0 (chars nd) h.1))
            (omega (arith, h.3, size-append h.0 (chars nd), size-chars nd v)),
      )

  pub found-boundaries : (i k : ℕ) → i ≤ length bs → FindsNeedle (drop i bs) nd 0 (Some k)
      → IsCharBoundary bs (i + k) × IsCharBoundary bs (i + k + length nd)
  found-boundaries i k inside f =
      let rest = drop i bs in
      let found = match-bytes rest nd k f.1 in
      let x = take i bs ++ take k rest in
      let y = drop (k + length nd) rest in
      let reads : bs ≡ x ++ (nd ++ y) =
      cc (take-append-drop i bs, found, append_assoc (take i bs) (take k rest) (nd ++ y)) in
      let fits = f.1.fits in
      let last = length-take-le k rest (omega (arith, fits)) in
      boundaries x y reads (i + k)
      (omega (arith, length-append (take i bs) (take k rest), length-take-le i bs inside, last))

-- of a text from a char boundary on, what a search for a pattern that is not empty finds
module _ (bs nd : List ℕ) (i : ℕ) (u : IsUtf8 bs) (v : IsUtf8 nd) (some : 0 < length nd)
    (start : 0 < i → IsCharBoundary bs i) where
  from_here : IsCharBoundary bs i
  from_here = ⊎_elim (λ none. subst (IsCharBoundary bs) (omega arith) (IsCharBoundary-start bs u)) start (cases_lt i 1)

  reads : chars bs ≡ chars (take i bs) ++ chars (drop i bs)
  reads = cc (take-append-drop i bs, chars-append (take i bs) (drop i bs) (IsUtf8-take bs i u from_here))

  long : size (chars (take i bs)) ≡ i
  long = size-chars (take i bs) (IsUtf8-take bs i u from_here) ∙ length-take-le i bs from_here.0

  pub nowhere : FindsNeedle (drop i bs) nd 0 None → ¬ Occurs (chars nd) (chars (drop i bs))
  nowhere f = not_found (drop i bs) nd (IsUtf8-drop bs i u from_here) v f

  module _ (k : ℕ) (f : FindsNeedle (drop i bs) nd 0 (Some k)) where
    match : IsNextMatch (chars (take i bs)) (chars (drop i bs)) (chars nd) (i + k)
    match = IsNextMatch-found bs nd i u v some k f _ _ reads long

    pub is_first : (j : ℕ) → j ≡ i + k → IsFirstAfter (chars nd) (chars (take (j - i) (drop i bs)))
    is_first j e = search (rules, size-append, match, chars-take, IsUtf8-drop, from_here, reads, long)

    pub parts : (j : ℕ) → j ≡ i + k
        → chars bs ≡ chars (take j bs) ++ (chars nd ++ chars (drop (j + length nd) bs))
    parts j e =
        let front = chars (take i bs) in
        let a = front ++ match.before in
        let p = chars nd in
        let whole : chars bs ≡ a ++ (p ++ match.after) =
        cc (reads, match.reads, append_assoc front match.before (p ++ match.after)) in
        let behind = whole ∙ sym (append_assoc a p match.after) in
        let last = chars-drop bs (a ++ p) match.after (j + length nd) u behind
        (omega (arith, size-append a p, size-chars nd v, match.index)) in
        rw (chars-take bs a (p ++ match.after) j u whole (match.index ∙ sym e), last) whole
