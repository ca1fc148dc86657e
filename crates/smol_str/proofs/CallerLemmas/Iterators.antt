-- What std's iterators give as lists of texts: characters from the end of a text, an array by value, a text split at
-- another.
use Rattle.smol_str.proofs.Common.{◌≡◌, ◌<◌, ◌==◌, ℕ, Bool, true, false, Bor, List, [], ◌∷◌, ◌++◌, length, map, take, drop, flat_map, Option, None, Some, refl, sym, ap, ◌∙◌, subst, arith, append-nil, rules, IsUtf8, chars, encode_utf8_all, encode_utf8, chars-nil, encodes-chars, chars_from_encodes, scalars-chars, length-le-encodes}
use Rattle.smol_str.proofs.CallerLemmas.Common.{reverse, lines, FindsChar, Mut, Called, slice_split, AlwaysYields, iter_rest, iter_steps, iter_steps_back, chars_rest, chars_steps, chars_steps_back, lines_rest, lines_steps, split_text, split_has_more, split_pattern, split_steps, rev_source, rev_steps, take_source, take_count, take_steps, skip_source, skip_count, skip_steps, map_source}
use Rattle.smol_str.proofs.CallerLemmas.Common.{map_callee, map_steps, copied_source, copied_steps, flatten_source, flatten_front, flatten_back, flatten_done, flatten_steps, array_steps, array_into_iter_items, IntoIter, Chars, Split, Iter, YieldsList-from_skip, YieldsList-from_flat_map, YieldsList-from_shown, YieldsList-at, YieldsList-from_copied, YieldsList-from_shown_while}
use Rattle.smol_str.proofs.CallerLemmas.Common.{YieldsList-from_lines, YieldsList-from_str_split, reverse-append, length-reverse, nil_from_length}
use Rattle.std.specs.declared.iter.Rev.{Rev}
use Rattle.std.specs.declared.iter.Copied.{Copied}
use Rattle.std.proofs.lemmas.Iterator.{YieldsList, YieldsList-from_slice, YieldsList-from_chars, YieldsList-from_take, YieldsList-from_map_by}
use Rattle.smol_str.proofs.TextLemmas.Split.{scalars_parts}
use Rattle.smol_str.proofs.CutLemmas.Sync.{StandsBetween-bytes}

-- an array that is handed over
pub YieldsList-from_array : {A : Type 0} {n : ℕ} {s : IntoIter A n} (xs : List A) → array_into_iter_items s ≡ xs →
    YieldsList array_steps (λ x. x) s xs
YieldsList-from_array {s = s} xs e =
    rw (← e) (YieldsList-from_shown array_steps (λ x. x) array_into_iter_items (λ s t h. h.0) (λ s x t h. h) s)

-- the last character of a text comes off its end
last_off : (bs ds : List ℕ) (c : ℕ) → IsUtf8 bs → bs ≡ ds ++ encode_utf8 c → IsUtf8 ds × (chars bs ≡ chars ds ++ c ∷ [])
last_off bs ds c u e =
    let one : encode_utf8_all (c ∷ []) ++ [] ≡ encode_utf8 c = append-nil _ ∙ append-nil _ in
    let h = StandsBetween-bytes (chars bs) (c ∷ []) ds [] (omega arith) (cc (encodes-chars bs u, one)) in
    let none = nil_from_length h.1 (omega (arith, ap length h.4, length-le-encodes h.1)) in
    let parts : chars bs ≡ h.0 ++ c ∷ [] = cc (h.2, none) in
    let front = scalars_parts h.0 (c ∷ []) (cc (parts, scalars-chars bs u)) in
    let utf8 : IsUtf8 ds = (h.0, (front.0, h.3)) in
    (utf8, cc (parts, chars_from_encodes h.0 ds utf8 h.3))

-- ---- std's lemmas in forms that `grind` finds at a caller's goal: no λ is in what they show but that by which items
-- are seen, and a list that may have computed has a name

weaker_runs : {S A B : Type 0} (steps more : S → Option A → S → Type 0) (v : A → B)
    → ((s : S) (o : Option A) (t : S) → more s o t → steps s o t) → (s : S) (ys : List B)
    → AlwaysYields steps v s ys → AlwaysYields more v s ys
weaker_runs steps more v f s [] h = λ x t m. h x t (f s (Some x) t m)
weaker_runs steps more v f s (y ∷ ys) h = (
  λ t m. h.0 t (f s None t m),
  λ x t m. let rest = h.1 x t (f s (Some x) t m) in (rest.0, weaker_runs steps more v f t ys rest.1),
)

-- steps of which other steps follow give equal items
pub weaker : {S A B : Type 0} {steps more : S → Option A → S → Type 0} {v : A → B} {s : S} {ys : List B}
    → ((s : S) (o : Option A) (t : S) → more s o t → steps s o t) → YieldsList steps v s ys → YieldsList more v s ys
weaker f gives = record { runs = weaker_runs _ _ _ f _ _ gives.runs }

-- sources
pub gives-slice : {A : Type 0} {s : _} (xs : List A) → iter_rest s ≡ xs → YieldsList iter_steps (λ y. y.now) s xs
gives-slice xs e = YieldsList-from_slice xs e

pub gives-chars : {s : _} (bs : List ℕ) → IsUtf8 bs → chars_rest s ≡ bs → YieldsList chars_steps (λ c. c) s (chars bs)
gives-chars bs u e = YieldsList-from_chars bs u e

pub gives-rev_chars : {s t : _} (bs : List ℕ) → IsUtf8 bs → rev_source s ≡ t → chars_rest t ≡ bs
    → YieldsList (rev_steps chars_steps_back) (λ c. c) s (reverse (chars bs))
gives-rev_chars {s} bs u e f =
    let rest = λ (t : _). chars_rest (rev_source t) in
    let is : rest s ≡ bs = ap chars_rest e ∙ f in
    rw (← is) (YieldsList-from_shown_while (rev_steps chars_steps_back) (λ c. c) (λ t. reverse (chars (rest t))) (λ t. IsUtf8 (rest t))
    (λ t u h k. cc (nil_from_length (rest t) k.0, chars-nil))
    (λ t c u h k. let off = last_off (rest t) (rest u) c h k in (off.0, cc (off.1, reverse-append (chars (rest u)) (c ∷ []))))
    s (rw is u))

pub gives-lines : {s : _} (all : List (List ℕ)) → all ≡ lines (lines_rest s) → YieldsList lines_steps (λ x. x.now) s all
gives-lines {s} all e = rw e (YieldsList-from_lines (lines_rest s) refl)

-- a text that is split at an ASCII character
pub gives-split_char : {s : _} {steps : Split ℕ → Option (Bor (List ℕ)) → Split ℕ → Type 0} (test : ℕ → Bool) (c : ℕ)
    (bs : List ℕ) → ((s : _) (o : _) (t : _) → steps s o t → split_steps FindsChar (λ a b. b ≡ a) s o t) → c < 128
    → split_text s ≡ bs → split_has_more s ≡ true → split_pattern s ≡ c → ((b : ℕ) → test b ≡ (b == c))
    → YieldsList steps (λ x. x.now) s (slice_split test bs)
gives-split_char {s} test c bs f low text more pattern same =
    weaker f (subst (λ t. YieldsList (split_steps FindsChar (λ a b. b ≡ a)) (λ x. x.now) s (slice_split t bs)) (λ i b. sym (same b) i)
    (YieldsList-from_str_split c bs low text more pattern))

-- adapters
pub gives-copied : {S A : Type 0} {steps : S → Option (Bor A) → S → Type 0} {s : _} {t : S} {ys : List A}
    → copied_source s ≡ t → YieldsList steps (λ y. y.now) t ys → YieldsList (copied_steps steps) (λ y. y) s ys
gives-copied e gives = YieldsList-from_copied (YieldsList-at e gives)

pub gives-rev_copied : {A : Type 0} {s : _} {steps : Rev (Copied (Iter A)) → Option A → Rev (Copied (Iter A)) → Type 0}
    (xs : List A) → ((s : _) (o : _) (t : _) → steps s o t → rev_steps (copied_steps iter_steps_back) s o t)
    → iter_rest (copied_source (rev_source s)) ≡ xs → YieldsList steps (λ y. y) s (reverse xs)
gives-rev_copied {s = s} xs f e =
    let all = YieldsList-from_shown (rev_steps (copied_steps iter_steps_back)) (λ y. y)
    (λ u. reverse (iter_rest (copied_source (rev_source u)))) (λ s t h. search (rules, length-reverse))
    (λ s x t h. search (rules, reverse-append)) s in
    weaker f (subst (λ ys. YieldsList (rev_steps (copied_steps iter_steps_back)) (λ y. y) s (reverse ys)) e all)

-- `map` of items that are values, and of items that are lent
module _ {S F R A C : Type 0} {s : _} {ys : List A} {f : F} (w : R → C) (h : A → C) where
  pub gives-map : {steps : S → Option A → S → Type 0} (g : Mut F (A × Unit {0}) R)
      → YieldsList steps (λ x. x) (map_source s) ys → map_callee s ≡ f
      → ((x : A) (r : R) (q : F) → Called g f (x, tt) r q → (q ≡ f) × (w r ≡ h x))
      → YieldsList (map_steps steps g) w s (map h ys)
  gives-map g gives c k = YieldsList-from_map_by g w h gives c k

  pub gives-map_lent : {steps : S → Option (Bor A) → S → Type 0} (g : Mut F (Bor A × Unit {0}) R)
      → YieldsList steps (λ x. x.now) (map_source s) ys → map_callee s ≡ f
      → ((x : Bor A) (r : R) (q : F) → Called g f (x, tt) r q → (q ≡ f) × (w r ≡ h x.now))
      → YieldsList (map_steps steps g) w s (map h ys)
  gives-map_lent g gives c k = YieldsList-from_map_by g w h gives c k

-- `flat_map` of items that are lent to their characters
pub gives-flat_chars : {S F A : Type 0} {s : _} {f : F} {steps : S → Option (Bor A) → S → Type 0}
    {becomes : Chars → Chars → Type 0} (g : Mut F (Bor A × Unit {0}) Chars) (h : A → List ℕ) (ys : List A)
    → YieldsList steps (λ x. x.now) (map_source (flatten_source s)) ys → map_callee (flatten_source s) ≡ f
    → flatten_front s ≡ None → flatten_back s ≡ None → flatten_done s ≡ false → ((u j : Chars) → becomes u j → j ≡ u)
    → ((x : Bor A) (u : Chars) (q : F) → Called g f (x, tt) u q → (q ≡ f) × (chars (chars_rest u) ≡ h x.now))
    → ((x : Bor A) (u : Chars) (q : F) → Called g f (x, tt) u q → IsUtf8 (chars_rest u))
    → YieldsList (flatten_steps (map_steps steps g) becomes chars_steps) (λ c. c) s (flat_map h ys)
gives-flat_chars {f = f} {becomes = becomes} g h ys gives c front back done same k utf8 =
    YieldsList-from_flat_map g becomes chars_steps (λ c. c) h f (λ x u q called.
    let these = rw (k x u q called).1 at (YieldsList-from_chars {s = u} _ (utf8 x u q called) refl) in
    ((k x u q called).0, λ j is. rw (same u j is) these))
    gives c front back done

-- `take` and `skip` by a number that is written out, of characters and of what a slice lends
module _ {s : _} (all : List ℕ) where
  pub gives-take_chars : IsUtf8 (chars_rest (take_source s)) → all ≡ take (take_count s) (chars (chars_rest (take_source s)))
      → YieldsList (take_steps chars_steps) (λ c. c) s all
  gives-take_chars u e = rw e (YieldsList-from_take (take_count s) (YieldsList-from_chars _ u refl) refl)

  pub gives-skip_chars : IsUtf8 (chars_rest (skip_source s)) → all ≡ drop (skip_count s) (chars (chars_rest (skip_source s)))
      → YieldsList (skip_steps chars_steps) (λ c. c) s all
  gives-skip_chars u e = rw e (YieldsList-from_skip (skip_count s) (YieldsList-from_chars _ u refl) refl)

module _ {A : Type 0} {s : _} (all : List A) where
  pub gives-take_slice : all ≡ take (take_count s) (iter_rest (take_source s))
      → YieldsList (take_steps iter_steps) (λ y. y.now) s all
  gives-take_slice e = rw e (YieldsList-from_take (take_count s) (YieldsList-from_slice (iter_rest (take_source s)) refl) refl)

  pub gives-skip_slice : all ≡ drop (skip_count s) (iter_rest (skip_source s))
      → YieldsList (skip_steps iter_steps) (λ y. y.now) s all
  gives-skip_slice e = rw e (YieldsList-from_skip (skip_count s) (YieldsList-from_slice (iter_rest (skip_source s)) refl) refl)
