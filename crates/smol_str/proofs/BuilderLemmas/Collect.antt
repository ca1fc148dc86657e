-- For collecting, extending and building by steps: items drawn and appended one after another.
use Rattle.smol_str.proofs.Common.{Global, true, false, ◌⊎◌, inr, ◌≡◌, Option, Some, Result, Ok, Err, IfOk, OnOk, OnErr, refl, ap, ◌∙◌, subst, rules, inl, on_err_weaker, IfOk-weaker, false≢true, ℕ, ◌<◌, arith, List, [], ◌∷◌, ◌++◌, length, take, drop, map, length-append, length-take, YieldsList, items_from_drains, append-nil, length-map}
use Rattle.smol_str.proofs.Common.{String, string_bytes, chars}
use Rattle.smol_str.proofs.Common.{IsShort, IsResident, but_last, BuilderState, InBuffer, OnHeap, empty_builder, appended, joined, Meaning, IsValueOf}
use Rattle.smol_str.proofs.TextLemmas.Lists.{length_but_last}
use Rattle.std.specs.Iterator.{Yields, YieldsThen, Drains, DrainsIf, ExtendsWithItems}
use Rattle.std.specs.Iterator.Runs.{Run}
use Rattle.std.proofs.iter.runs.Lists.{Yields-both}
use Rattle.std.proofs.iter.runs.Made.{run, took, to_end, to_item}
use Rattle.std.proofs.lemmas.Grind.{flat_map-append}
use Rattle.std.proofs.lemmas.Iterator.Consumers.{YieldsList-so_far}
use Rattle.smol_str.specs.BuilderArms.{heap_builder}
use Rattle.smol_str.specs.Collect.{AppendedAll, StoppedAt, Collected, Outgrown}
use Rattle.smol_str.proofs.TextLemmas.Sizes.{IsShort-front}
use Rattle.smol_str.proofs.BuilderLemmas.State.{appended-twice, OnHeap-long}
use Rattle.smol_str.proofs.BuilderLemmas.Push.{appended-heap}

-- after one item more
pub appended-last : {A : Type 0} (f : A → List ℕ) (old now new : BuilderState) (xs : List A) (x : A)
    → now ≡ appended old (joined f xs) → new ≡ appended now (f x) → new ≡ appended old (joined f (xs ++ x ∷ []))
appended-last f old now new xs x h a = search (rules, arith, appended-twice, flat_map-append, append-nil)

but_last-on : {A : Type 0} (xs ys : List A) (x : A) → 0 < length ys → but_last (xs ++ x ∷ ys) ≡ xs ++ x ∷ but_last ys
but_last-on [] [] x some = absurd (omega arith)
but_last-on [] (y ∷ ys) x some = refl
but_last-on (a ∷ []) ys x some = cc (but_last-on [] ys x some)
but_last-on (a ∷ b ∷ xs) ys x some = cc (but_last-on (b ∷ xs) ys x some)

but_last-more : {A : Type 0} (xs : List A) (x : A) → but_last (xs ++ x ∷ []) ≡ xs
but_last-more (y ∷ z ∷ xs) x = cc (but_last-more (z ∷ xs) x)
but_last-more xs x = refl

-- the items that came before the last
came-before : {S A : Type 0} (steps : S → Option A → S → Type 0) (s t : S) (xs : List A) → Yields steps s xs t
    → (u : S) × Yields steps s (but_last xs) u
came-before steps s t [] came = (t, came)
came-before steps s t (x ∷ []) came = (s, refl)
came-before steps s t (x ∷ y ∷ xs) (u, step, came) =
    let before = came-before steps u t (y ∷ xs) came in (before.0, (u, step, before.1))

-- a loop that appends the text of each item: the builder has that of the items xs so far
module _ {S A : Type 0} (steps : S → Option A → S → Type 0) (s : S) (texts : List A → List ℕ) (xs : List A) (old new : BuilderState)
    (now : new ≡ appended old (texts xs)) where
  -- at the end of the iterator
  pub all-appended : Drains steps s xs → AppendedAll texts steps s old new
  unfolding AppendedAll
  all-appended d = (run steps s xs true (to_end steps s xs d), refl, refl, now)

  -- at an item that would have put the builder on the heap
  pub stopped-at : (x : A) (t : S) → YieldsThen steps s xs (Some x) t → (appended old (texts (xs ++ x ∷ []))).kind ≡ OnHeap
      → StoppedAt texts steps s old new
  unfolding StoppedAt
  stopped-at x t came heap =
      let made = run steps s (xs ++ x ∷ []) false (to_item steps s t xs x came) in
      (made, refl, (omega (arith, length-append {A = A}), rw but_last-more now, heap))

module _ {S A : Type 0} (steps : S → Option A → S → Type 0) (s : S) where
  pub run-yields : (p : Run steps) → p.from ≡ s → Yields steps s p.items (took p).0
  run-yields p from = subst (λ u. Yields steps u p.items (took p).0) from (took p).1

  pub run-drains : (p : Run steps) → p.from ≡ s → p.whole ≡ true → Drains steps s p.items
  run-drains p from whole = let end = (took p).2 whole in (end.0, ((took p).0, run-yields p from, end.1))

  module _ (texts : List A → List ℕ) (new : BuilderState) where
    -- a new builder that the items put on the heap, or whose value is made
    pub outgrown-stopped : StoppedAt texts steps s (empty_builder InBuffer) new → Outgrown texts steps s
    unfolding StoppedAt Outgrown
    outgrown-stopped stopped = search (rules, OnHeap-long)

    pub collected-value : {V E : Type 0} (m : V → Meaning) (r : Result V E)
        → AppendedAll texts steps s (empty_builder InBuffer) new → IfOk r (λ v. IsValueOf new.text (m v))
        → IfOk r (Collected texts steps s m)
    unfolding AppendedAll Collected
    collected-value m r (p, from, whole, all) is = IfOk-weaker r _ _ (λ v is. (p, from, whole, search rules)) is

    pub outgrown-value : {V E : Type 0} (r : Result V E) → AppendedAll texts steps s (empty_builder InBuffer) new
        → OnErr r (¬ (IsResident new.text)) → OnErr r (Outgrown texts steps s)
    unfolding AppendedAll Outgrown
    outgrown-value r (p, from, whole, all) away = on_err_weaker r (λ away. (p, from, search rules)) away

-- what std says of an extension
pub extended : {U S A E : Type 0} (becomes : U → S → Type 0) (steps : S → Option A → S → Type 0) (texts : List A → List ℕ)
    (iter : U) (old new : BuilderState) (r : Result (Unit {0}) E)
    → OnOk r ((it : S) × becomes iter it × AppendedAll texts steps it old new)
    → OnErr r ((it : S) × becomes iter it × StoppedAt texts steps it old new)
    → ExtendsWithItems becomes steps (λ old items new. new ≡ appended old (texts items)) iter old new r
unfolding AppendedAll StoppedAt
extended becomes steps texts iter old new (Ok u) (it, is, (p, from, whole, all)) stopped =
    (it, p.items, is, all, run-drains steps it p from whole)
extended becomes steps texts iter old new (Err e) all (it, is, (p, from, (some, front, heap))) =
    (it, but_last p.items, is, front, came-before steps it _ p.items (run-yields steps it p from))

module _ {S : Type 0} (steps : S → Option ℕ → S → Type 0) (s : S) (xs : List ℕ) (old now new : BuilderState)
    (is : now ≡ appended old xs) (t : S) (x : ℕ) (came : YieldsThen steps s xs (Some x) t) where
  -- characters that came before others
  drew : (ys : List ℕ) (u : S) → Yields steps t ys u → Yields steps s (xs ++ x ∷ ys) u
  drew ys u gave = Yields-both steps xs (x ∷ ys) s came.0 u came.1 (t, came.2, gave)

  pub all-behind : AppendedAll (λ items. x ∷ items) steps t now new → AppendedAll (λ items. items) steps s old new
  unfolding AppendedAll
  all-behind (p, from, whole, all) =
      let (u, (v, gave, end)) = run-drains steps t p from whole in
      all-appended steps s (λ items. items) (xs ++ x ∷ p.items) old new
      (cc (is, all, appended-twice old xs (x ∷ p.items))) (u, (v, drew p.items v gave, end))

  pub stopped-behind : ((new ≡ now) × ((appended now (x ∷ [])).kind ≡ OnHeap)) ⊎ StoppedAt (λ items. x ∷ items) steps t now new
      → StoppedAt (λ items. items) steps s old new
  unfolding StoppedAt
  stopped-behind (inl (same, heap)) =
      let joins = appended-twice old xs (x ∷ []) in
      stopped-at steps s (λ items. items) xs old new (same ∙ is) x t came cc
  stopped-behind (inr (p, from, (some, front, heap))) =
      let gave = drew p.items _ (run-yields steps t p from) in
      let text : new ≡ appended old (xs ++ x ∷ but_last p.items) = cc (front, is, appended-twice old xs (x ∷ but_last p.items)) in
      let joins = appended-twice old xs (x ∷ p.items) in
      let made = run steps s (xs ++ x ∷ p.items) false (_, gave, λ e. absurd (false≢true e)) in
      (made, refl, (omega (arith, length-append {A = ℕ}), rw (but_last-on xs p.items x some) text, cc))

-- a character behind those of xs
pub pushed-next : (first old new : String Global) (xs : List ℕ) (x : ℕ) → heap_builder old ≡ appended (heap_builder first) xs
    → chars (string_bytes new) ≡ chars (string_bytes old) ++ x ∷ [] → heap_builder new ≡ appended (heap_builder first) (xs ++ x ∷ [])
pushed-next first old new xs x is put = cc (is, put, appended-twice (heap_builder first) xs (x ∷ []))

-- characters that came behind x, which was appended before
module _ {S : Type 0} (steps : S → Option ℕ → S → Type 0) (s : S) (old now new : BuilderState) (x : ℕ)
    (is : now ≡ appended old (x ∷ [])) where
  pub all-next : AppendedAll (λ items. items) steps s now new → AppendedAll (λ items. x ∷ items) steps s old new
  unfolding AppendedAll
  all-next (p, from, whole, all) = (p, from, whole, cc (is, all, appended-twice old (x ∷ []) p.items))

  pub stopped-next : StoppedAt (λ items. items) steps s now new → StoppedAt (λ items. x ∷ items) steps s old new
  unfolding StoppedAt
  stopped-next (p, from, (some, front, heap)) =
      let before = appended-twice old (x ∷ []) (but_last p.items) in
      let all = appended-twice old (x ∷ []) p.items in
      (p, from, (some, cc (is, front, before), cc (is, heap, all)))

-- `texts` says the text of items, and `whole` that of the list that v sees in them, part by part
pub record Reads {A B : Type 0} (texts : List A → List ℕ) (whole : List B → List ℕ) (v : A → B) : Type 0 where
  pub is : (xs : List A) → texts xs ≡ whole (map v xs)
  pub parts : (all : List B) (n : ℕ) → whole all ≡ whole (take n all) ++ whole (drop n all)

-- an iterator that gives a list
module _ {S A B : Type 0} {steps : S → Option A → S → Type 0} {s : S} {v : A → B} {all : List B} {texts : List A → List ℕ}
    {whole : List B → List ℕ} (reads : Reads texts whole v) where
  module _ (p : Run steps) (from : p.from ≡ s) (gives : YieldsList steps v s all) where
    -- at its end all its texts came
    text-whole : p.whole ≡ true → texts p.items ≡ whole all
    text-whole end =
        let (u, (t, came, ends)) = run-drains steps s p from end in
        cc (reads.is p.items, items_from_drains p.items (t, came, λ _. (u, ends)) gives)

    -- before it a front of them
    text-front : whole all ≡ texts p.items ++ whole (drop (length p.items) all)
    text-front =
        cc (reads.parts all (length p.items), reads.is p.items, YieldsList-so_far gives p.items _ (run-yields steps s p from))

  -- a value of its text, by `collect` and by std's trait
  pub collected : {E : Type 0} (m : Meaning → Meaning) (r : Result Meaning E) → IfOk r (Collected texts steps s m)
      → ((y : Meaning) → m y ≡ y) → YieldsList steps v s all → IfOk r (λ y. IsValueOf (whole all) y)
  unfolding Collected
  collected m (Ok y) (p, from, end, made) same gives = rw (same y) at (rw (text-whole p from gives end) at made)
  collected m (Err e) made same gives = tt

  pub made : {E : Type 0} (r : Result Meaning E)
      → IfOk r (λ y. (xs : List A) × DrainsIf steps (Unit {0}) s xs × IsValueOf (texts xs) y)
      → YieldsList steps v s all → IfOk r (λ y. IsValueOf (whole all) y)
  made (Ok y) (xs, d, is) gives = rw (reads.is xs, items_from_drains xs d gives) at is
  made (Err e) h gives = tt

  -- not made as long as that text is short
  pub not_short-outgrown : Outgrown texts steps s → YieldsList steps v s all → ¬ (IsShort (whole all))
  unfolding Outgrown
  not_short-outgrown (p, from, long) gives short =
      long (IsShort-front (texts p.items) _ (subst IsShort (text-front p from gives) short))

  -- a builder with its text at the end
  pub text-appended : (old new : BuilderState) → AppendedAll texts steps s old new → YieldsList steps v s all
      → new ≡ appended old (whole all)
  unfolding AppendedAll
  text-appended old new (p, from, end, now) gives = cc (now, text-whole p from gives end)

  -- that a front puts on the heap only where the whole would
  pub heap-stopped : (old new : BuilderState) → StoppedAt texts steps s old new → YieldsList steps v s all
      → (appended old (whole all)).kind ≡ OnHeap
  unfolding StoppedAt
  heap-stopped old new (p, from, (some, front, heap)) gives =
      rw (text-front p from gives) (appended-heap old (texts p.items) _ heap)

  -- the builder has the text of a front then, and not of the whole
  pub front-stopped : (old new : BuilderState) → StoppedAt texts steps s old new → YieldsList steps v s all
      → (n : ℕ) × (n < length all) × (new ≡ appended old (whole (take n all)))
  unfolding StoppedAt
  front-stopped old new (p, from, (some, front, heap)) gives =
      let (u, before) = came-before steps s _ p.items (run-yields steps s p from) in
      let came = YieldsList-so_far gives (but_last p.items) u before in
      let all_came = YieldsList-so_far gives p.items _ (run-yields steps s p from) in
      let most = simp (length-map, length-take) at (ap length all_came) in
      (length (but_last p.items), omega (arith, some, length_but_last p.items, most), cc (front, reads.is (but_last p.items), came))
