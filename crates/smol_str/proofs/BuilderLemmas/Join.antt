-- For joining: a text, and then others behind a separator.
use Rattle.smol_str.proofs.Common.{◌≡◌, Option, None, Some, IfSome, unwrap_or, [], ℕ, ◌+◌, ◌<◌, List, ◌∷◌, ◌++◌, length, get_or, map, take, flat_map, ap, ◌∙◌, arith, append-nil, append_assoc, chars-append, IsUtf8-append, common_steps, joined_by, BuilderState, OnHeap, empty_builder, appended, kind_for, IsShort, IsUtf8, chars, size, ◌%◌, ◌≤◌, ⊎_elim}
use Rattle.std.proofs.lemmas.Grind.{take_at_read, flat_map-append}
use Rattle.std.proofs.lemmas.List.Folds.{flat_map-map}
use Rattle.std.proofs.Math.Nat.{mod-le}
use Rattle.smol_str.proofs.BuilderLemmas.State.{appended-twice, appended-nothing, why_heap}
use Rattle.smol_str.proofs.TextLemmas.Sizes.{size-append, size-chars}
use Rattle.smol_str.proofs.BuilderLemmas.Push.{appended-heap}
use Rattle.smol_str.proofs.TextLemmas.Lists.{flat_map-parts}

-- the first text, and each other behind a separator
pub joined-first : {X : Type 0} (f : X → List ℕ) (p : List ℕ) (xs others : List X) (x : X) → xs ≡ x ∷ others
    → joined_by p (map f xs) ≡ f x ++ flat_map (λ y. p ++ f y) others
joined-first f p xs others x e =
    ap (λ l. joined_by p (map f l)) e ∙ ap (λ l. f x ++ l) (flat_map-map (λ (q : List ℕ). p ++ q) f others)

-- in a loop over pieces: those so far and one more
flat_map-next : {X : Type 0} (f : X → List ℕ) (xs : List X) (i : ℕ) (x : X) → i < length xs → x ≡ get_or xs i x
    → flat_map f (take (i + 1) xs) ≡ flat_map f (take i xs) ++ f x
flat_map-next f xs i x here is = grind (arith, common_steps, take_at_read, flat_map-append, append-nil)

-- in a loop over pieces: one that puts the builder on the heap does so with all others
pub heap-at : {X : Type 0} (f : X → List ℕ) (old now : BuilderState) (xs : List X) (i : ℕ) (x : X) → i < length xs
    → x ≡ get_or xs i x → now ≡ appended old (flat_map f (take i xs)) → (appended now (f x)).kind ≡ OnHeap
    → (appended old (flat_map f xs)).kind ≡ OnHeap
heap-at f old now xs i x here is so_far heap =
    let more = flat_map-next f xs i x here is in
    let joins : appended now (f x) ≡ appended old (flat_map f (take (i + 1) xs)) =
    cc (so_far, more, appended-twice old (flat_map f (take i xs)) (f x)) in
    rw (flat_map-parts f xs (i + 1)) (appended-heap old (flat_map f (take (i + 1) xs)) _ (cc (joins, heap)))

-- the length of a text that is lent, or 0, is at most that of the piece
pub lent-least : {X : Type 0} (now : X → List ℕ) (t : List ℕ) (lent : Option X) (none text : X) → text ≡ unwrap_or lent none
    → now none ≡ [] → IsUtf8 (now text) → IfSome lent (λ x. chars (now x) ≡ t) → length (now text) ≤ size t
lent-least now t None none text is empty u reads = omega (arith, ap (λ x. length (now x)) is, ap length empty)
lent-least now t (Some x) none text is empty u reads =
    omega (arith, ap (λ y. length (now y)) is, size-chars (now text) u, ap (λ y. size (chars (now y))) is, ap size reads)

-- in a loop that sums, in machine words, what a text t and pieces have at least, each behind a separator
pub least-more : {X : Type 0} (f : X → List ℕ) (t sep : List ℕ) (xs : List X) (i len m : ℕ) (x : X) (k : ℕ)
    → IsUtf8 sep → i < length xs → x ≡ get_or xs i x → len ≤ size (t ++ flat_map (λ y. chars sep ++ f y) (take i xs))
    → k ≤ size (f x) → ((len + length sep) % m + k) % m ≤ size (t ++ flat_map (λ y. chars sep ++ f y) (take (i + 1) xs))
least-more {X = X} f t sep xs i len m x k u here is so_far least =
    let g = λ (y : X). chars sep ++ f y in
    let begun = flat_map g (take i xs) in
    let sum = (len + length sep) % m in
    let whole : size (t ++ flat_map g (take (i + 1) xs)) ≡ size t + (size begun + (length sep + size (f x))) =
    cc (flat_map-next g xs i x here is, size-append t (begun ++ g x), size-append begun (g x), size-append (chars sep) (f x), size-chars sep u) in
    omega (arith, so_far, size-append t begun, whole, mod-le (len + length sep) m, mod-le (sum + k) m, least)

-- a builder with room for no more than the text, which the text, or a part of it, puts on the heap
joined-long : (n : ℕ) (t : List ℕ) → n ≤ size t → (appended (empty_builder (kind_for n)) t).kind ≡ OnHeap → ¬ (IsShort t)
joined-long n t least heap = ⊎_elim (λ more short. omega (arith, more, short, least)) (λ long. long) (why_heap n t heap)

module _ (b : BuilderState) (n : ℕ) (t u : List ℕ) (new : b ≡ empty_builder (kind_for n)) (least : n ≤ size (t ++ u)) where
  pub first-long : (appended b t).kind ≡ OnHeap → ¬ (IsShort (t ++ u))
  first-long heap = joined-long n (t ++ u) least (rw new at (appended-heap b t u heap))

  pub others-long : (d : BuilderState) → d ≡ appended b t → (appended d u).kind ≡ OnHeap → ¬ (IsShort (t ++ u))
  others-long d put heap = joined-long n (t ++ u) least (cc (appended-twice b t u, put, new, heap))

pub ruleset appends = (appended-twice, appended-nothing, appended-heap, take_at_read, flat_map-append, append-nil)

-- in a loop that writes pieces: those so far are written, and the separator and one more behind them
pub written-next : {X : Type 0} (f : X → List ℕ) (t sep : List ℕ) (xs : List X) (i : ℕ) (x : X) (old piece new : List ℕ)
    → IsUtf8 old → IsUtf8 sep → IsUtf8 piece → i < length xs → x ≡ get_or xs i x
    → chars old ≡ t ++ flat_map (λ y. chars sep ++ f y) (take i xs) → chars piece ≡ f x → new ≡ (old ++ sep) ++ piece
    → IsUtf8 new × (chars new ≡ t ++ flat_map (λ y. chars sep ++ f y) (take (i + 1) xs))
written-next {X = X} f t sep xs i x old piece new u v w here at so_far is put =
    let g = λ (y : X). chars sep ++ f y in (
      rw put (IsUtf8-append (old ++ sep) piece (IsUtf8-append old sep u v) w),
      cc (
        put,
        chars-append (old ++ sep) piece (IsUtf8-append old sep u v),
        chars-append old sep u,
        so_far,
        is,
        flat_map-next g xs i x here at,
        append_assoc (t ++ flat_map g (take i xs)) (chars sep) (f x),
        append_assoc t (flat_map g (take i xs)) (chars sep ++ f x),
      ),
    )
