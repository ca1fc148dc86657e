-- Collecting and extending from an iterator that gives a list.
use Rattle.smol_str.proofs.Common.{◌≡◌, Global, Bor, true, Option, Result, IfOk, OnOk, OnErr, subst, refl, sym, ap, ◌∙◌, None, rules, on_err_weaker, on_ok_weaker, ℕ, ◌<◌, arith, append-nil, List, [], length, take, map, YieldsList, take-append-drop, map-id, items_from_drains, String, chars, IsUtf8, chars-encodes, INLINE_CAP, size, IsShort, Meaning, IsValueOf, BuilderState, OnHeap}
use Rattle.smol_str.proofs.Common.{appended, joined, joined_strs, joined_strings, joined_string_refs, str_text, string_text, replaced_all, cut, no_limit, place_of}
use Rattle.smol_str.proofs.CallerLemmas.Common.{Mut, Called, filter_map, Yields, DrainsIf, filter_map_source, filter_map_callee, filter_map_steps, array_steps, array_into_iter_items, IntoIter, Split, split_text, split_has_more, split_pattern, split_steps, FindsText, flat_map-map, YieldsList-from_repeat_n, YieldsList-from_vec, YieldsList-from_skip_while, YieldsList-from_chain}
use Rattle.smol_str.proofs.CallerLemmas.Common.{YieldsList-from_filter, YieldsList-from_filter_map}
use Rattle.smol_str.specs.Collect.{AppendedAll, StoppedAt, Collected, Outgrown}
use Rattle.smol_str.specs.JoinedLaws.{joined-strs}
use Rattle.smol_str.proofs.BuilderLemmas.Collect.{Reads, collected, made, not_short-outgrown, text-appended, heap-stopped, front-stopped}
use Rattle.smol_str.proofs.CallerLemmas.Iterators.{YieldsList-from_array, gives-chars, gives-rev_chars, gives-slice, gives-lines, gives-split_char, gives-copied, gives-rev_copied, gives-map, gives-map_lent, gives-flat_chars, gives-take_chars, gives-skip_chars, gives-take_slice, gives-skip_slice}
use Rattle.std.proofs.lemmas.Iterator.Search.{YieldsList-from_take_while}
use Rattle.smol_str.proofs.CallerLemmas.Splits.{joined-nothing, gives-split, gives-split_at}
use Rattle.smol_str.proofs.TextLemmas.Lists.{flat_map-parts}

-- From an iterator that gives a list, as the lemmas `YieldsList-from_..` of std say: of characters,
characters : Reads (λ (xs : List ℕ). xs) (λ xs. xs) (λ c. c)
characters = record { is = λ xs. sym (map-id xs); parts = λ all n. sym (take-append-drop n all) }

module _ {S E : Type 0} {steps : S → Option ℕ → S → Type 0} {s : S} {all : List ℕ} where
  pub chars_collected : (m : Meaning → Meaning) (r : Result Meaning E) → IfOk r (Collected (λ xs. xs) steps s m)
      → ((y : Meaning) → m y ≡ y) → YieldsList steps (λ c. c) s all → IfOk r (λ y. IsValueOf all y)
  chars_collected m r is eq gives = collected characters m r is eq gives

  pub chars_refused : {T : Type 0} (r : Result T E) → OnErr r (Outgrown (λ xs. xs) steps s)
      → YieldsList steps (λ c. c) s all → OnErr r (¬ (IsShort all))
  chars_refused r out gives = on_err_weaker r (λ out. not_short-outgrown characters out gives) out

  pub chars_extended : {T : Type 0} (r : Result T E) (old new : BuilderState) → OnOk r (AppendedAll (λ xs. xs) steps s old new)
      → YieldsList steps (λ c. c) s all → OnOk r (new ≡ appended old all)
  chars_extended r old new is gives = on_ok_weaker r (λ all. text-appended characters old new all gives) is

  pub chars_extend_refused : {T : Type 0} (r : Result T E) (old new : BuilderState)
      → OnErr r (StoppedAt (λ xs. xs) steps s old new) → YieldsList steps (λ c. c) s all
      → OnErr r ((appended old all).kind ≡ OnHeap)
  chars_extend_refused r old new out gives = on_err_weaker r (λ out. heap-stopped characters old new out gives) out

  pub chars_extend_stopped : {T : Type 0} (r : Result T E) (old new : BuilderState)
      → OnErr r (StoppedAt (λ xs. xs) steps s old new) → YieldsList steps (λ c. c) s all
      → OnErr r ((n : ℕ) × (n < length all) × (new ≡ appended old (take n all)))
  chars_extend_stopped r old new out gives = on_err_weaker r (λ out. front-stopped characters old new out gives) out

-- of `&str`s, read off their bytes,
strs : Reads joined_strs (joined chars) (λ x. x.now)
strs = record { is = λ xs. refl; parts = flat_map-parts chars }

module _ {S E : Type 0} {steps : S → Option (Bor (List ℕ)) → S → Type 0} {s : S} {all : List (List ℕ)} where
  pub strs_collected : (m : Meaning → Meaning) (r : Result Meaning E) → IfOk r (Collected joined_strs steps s m)
      → ((y : Meaning) → m y ≡ y) → YieldsList steps (λ x. x.now) s all → IfOk r (λ y. IsValueOf (joined chars all) y)
  strs_collected m r is eq gives = collected strs m r is eq gives

  pub strs_refused : {T : Type 0} (r : Result T E) → OnErr r (Outgrown joined_strs steps s)
      → YieldsList steps (λ x. x.now) s all → OnErr r (¬ (IsShort (joined chars all)))
  strs_refused r out gives = on_err_weaker r (λ out. not_short-outgrown strs out gives) out

  pub strs_extended : {T : Type 0} (r : Result T E) (old new : BuilderState) → OnOk r (AppendedAll joined_strs steps s old new)
      → YieldsList steps (λ x. x.now) s all → OnOk r (new ≡ appended old (joined chars all))
  strs_extended r old new is gives = on_ok_weaker r (λ all. text-appended strs old new all gives) is

  pub strs_extend_refused : {T : Type 0} (r : Result T E) (old new : BuilderState) → OnErr r (StoppedAt joined_strs steps s old new)
      → YieldsList steps (λ x. x.now) s all → OnErr r ((appended old (joined chars all)).kind ≡ OnHeap)
  strs_extend_refused r old new out gives = on_err_weaker r (λ out. heap-stopped strs old new out gives) out

  pub strs_made : (r : Result Meaning E)
      → IfOk r (λ y. (xs : List (Bor (List ℕ))) × DrainsIf steps (Unit {0}) s xs × IsValueOf (joined_strs xs) y)
      → YieldsList steps (λ x. x.now) s all → IfOk r (λ y. IsValueOf (joined chars all) y)
  strs_made r is gives = made strs r is gives

-- of `String`s,
strings : Reads joined_strings joined_strings (λ x. x)
strings = record { is = λ xs. ap joined_strings (sym (map-id xs)); parts = flat_map-parts string_text }

module _ {S E : Type 0} {steps : S → Option (String Global) → S → Type 0} {s : S} {all : List (String Global)} where
  pub strings_collected : (m : Meaning → Meaning) (r : Result Meaning E) → IfOk r (Collected joined_strings steps s m)
      → ((y : Meaning) → m y ≡ y) → YieldsList steps (λ x. x) s all → IfOk r (λ y. IsValueOf (joined_strings all) y)
  strings_collected m r is eq gives = collected strings m r is eq gives

  pub strings_refused : {T : Type 0} (r : Result T E) → OnErr r (Outgrown joined_strings steps s)
      → YieldsList steps (λ x. x) s all → OnErr r (¬ (IsShort (joined_strings all)))
  strings_refused r out gives = on_err_weaker r (λ out. not_short-outgrown strings out gives) out

  pub strings_made : (r : Result Meaning E)
      → IfOk r (λ y. (xs : List (String Global)) × DrainsIf steps (Unit {0}) s xs × IsValueOf (joined_strings xs) y)
      → YieldsList steps (λ x. x) s all → IfOk r (λ y. IsValueOf (joined_strings all) y)
  strings_made r is gives = made strings r is gives

-- and of borrowed `String`s
string_refs : Reads joined_string_refs (joined string_text) (λ x. x.now)
string_refs = record { is = λ xs. refl; parts = flat_map-parts string_text }

module _ {S E : Type 0} {steps : S → Option (Bor (String Global)) → S → Type 0} {s : S} {all : List (String Global)} where
  pub string_refs_collected : (m : Meaning → Meaning) (r : Result Meaning E) → IfOk r (Collected joined_string_refs steps s m)
      → ((y : Meaning) → m y ≡ y) → YieldsList steps (λ x. x.now) s all → IfOk r (λ y. IsValueOf (joined string_text all) y)
  string_refs_collected m r is eq gives = collected string_refs m r is eq gives

  pub string_refs_refused : {T : Type 0} (r : Result T E) → OnErr r (Outgrown joined_string_refs steps s)
      → YieldsList steps (λ x. x.now) s all → OnErr r (¬ (IsShort (joined string_text all)))
  string_refs_refused r out gives = on_err_weaker r (λ out. not_short-outgrown string_refs out gives) out

  pub string_refs_extended : {T : Type 0} (r : Result T E) (old new : BuilderState) → OnOk r (AppendedAll joined_string_refs steps s old new)
      → YieldsList steps (λ x. x.now) s all → OnOk r (new ≡ appended old (joined string_text all))
  string_refs_extended r old new is gives = on_ok_weaker r (λ all. text-appended string_refs old new all gives) is

  pub string_refs_extend_refused : {T : Type 0} (r : Result T E) (old new : BuilderState) → OnErr r (StoppedAt joined_string_refs steps s old new)
      → YieldsList steps (λ x. x.now) s all → OnErr r ((appended old (joined string_text all)).kind ≡ OnHeap)
  string_refs_extend_refused r old new out gives = on_err_weaker r (λ out. heap-stopped string_refs old new out gives) out

  pub string_refs_made : (r : Result Meaning E)
      → IfOk r (λ y. (xs : List (Bor (String Global))) × DrainsIf steps (Unit {0}) s xs × IsValueOf (joined_string_refs xs) y)
      → YieldsList steps (λ x. x.now) s all → IfOk r (λ y. IsValueOf (joined string_text all) y)
  string_refs_made r is gives = made string_refs r is gives

-- items xs came from an iterator that gives a list, and then no more
abbrev pub CameFrom : {A B : Type 0} → (A → B) → List B → List A → Type 1
CameFrom {A} v all xs =
    (S : Type 0) × (steps : S → Option A → S → Type 0) × (s t u : S) × Yields steps s xs t × steps t None u × YieldsList steps v s all

came : {A B : Type 0} {texts : List A → List ℕ} {whole : List B → List ℕ} {v : A → B} (reads : Reads texts whole v)
    (all : List B) (xs : List A) → CameFrom v all xs → texts xs ≡ whole all
came {whole} reads all xs (S, steps, s, t, u, runs, ends, gives) =
    reads.is xs ∙ ap whole (items_from_drains xs (t, runs, λ _. (u, ends)) gives)

-- by std's `collect`, in a form that `grind` finds
pub chars_came : {E : Type 0} (r : Result Meaning E) (all : List ℕ)
    → ((xs : List ℕ) × CameFrom (λ c. c) all xs × IfOk r (λ y. y.text ≡ xs) × IfOk r (λ y. y.place ≡ place_of xs))
    → IfOk r (λ y. IsValueOf all y)
chars_came r all (xs, from, text, place) = let is = came characters all xs from in search rules

-- and by its `extend` with an iterator
pub chars_grown : {S E : Type 0} {steps : S → Option ℕ → S → Type 0} {s : S} {all : List ℕ} (r : Result (Unit {0}) E)
    (old new : BuilderState) → OnOk r ((it : S) × (it ≡ s) × AppendedAll (λ xs. xs) steps it old new)
    → YieldsList steps (λ c. c) s all → OnOk r (new ≡ appended old all)
chars_grown {steps} r old new is gives = on_ok_weaker r
    (λ (it, same, grown). text-appended characters old new (subst (λ s. AppendedAll (λ xs. xs) steps s old new) same grown) gives) is

pub string_refs_grown : {S E : Type 0} {steps : S → Option (Bor (String Global)) → S → Type 0} {s : S}
    {all : List (String Global)} (r : Result (Unit {0}) E)
    (old new : BuilderState) → OnOk r ((it : S) × (it ≡ s) × AppendedAll joined_string_refs steps it old new)
    → YieldsList steps (λ x. x.now) s all → OnOk r (new ≡ appended old (joined string_text all))
string_refs_grown {steps} r old new is gives = on_ok_weaker r
    (λ (it, same, grown). text-appended string_refs old new (subst (λ s. AppendedAll joined_string_refs steps s old new) same grown) gives) is

pub ruleset chars_by_std = (gives-chars, gives-rev_chars, chars_came, chars_grown)

pub ruleset strings_by_std = (gives-slice, string_refs_grown)

-- the `&str`s themselves, whose texts a closure or a copy gives,
items_lent : Reads joined_strs (joined str_text) (λ x. x)
items_lent = record { is = λ xs. cc (joined-strs xs, map-id xs); parts = flat_map-parts str_text }

module _ {S E : Type 0} {steps : S → Option (Bor (List ℕ)) → S → Type 0} {s : S} {all : List (Bor (List ℕ))} where
  pub items_collected : (m : Meaning → Meaning) (r : Result Meaning E) → IfOk r (Collected joined_strs steps s m)
      → ((y : Meaning) → m y ≡ y) → YieldsList steps (λ x. x) s all → IfOk r (λ y. IsValueOf (joined str_text all) y)
  items_collected m r is eq gives = collected items_lent m r is eq gives

  pub items_refused : {T : Type 0} (r : Result T E) → OnErr r (Outgrown joined_strs steps s)
      → YieldsList steps (λ x. x) s all → OnErr r (¬ (IsShort (joined str_text all)))
  items_refused r out gives = on_err_weaker r (λ out. not_short-outgrown items_lent out gives) out

  pub items_extended : {T : Type 0} (r : Result T E) (old new : BuilderState) → OnOk r (AppendedAll joined_strs steps s old new)
      → YieldsList steps (λ x. x) s all → OnOk r (new ≡ appended old (joined str_text all))
  items_extended r old new is gives = on_ok_weaker r (λ all. text-appended items_lent old new all gives) is

-- or whose texts are those of a list,
texts_lent : Reads joined_strs (joined (λ t. t)) (λ x. chars x.now)
texts_lent = record { is = λ xs. cc (joined-strs xs, flat_map-map (λ t. t) str_text xs); parts = flat_map-parts (λ t. t) }

module _ {S E : Type 0} {steps : S → Option (Bor (List ℕ)) → S → Type 0} {s : S} where
  module _ {all : List (List ℕ)} (t : List ℕ) (one : joined (λ q. q) all ≡ t) where
    pub texts_collected : (m : Meaning → Meaning) (r : Result Meaning E) → IfOk r (Collected joined_strs steps s m)
        → ((y : Meaning) → m y ≡ y) → YieldsList steps (λ x. chars x.now) s all → IfOk r (λ y. IsValueOf t y)
    texts_collected m r is eq gives = rw one at (collected texts_lent m r is eq gives)

    pub texts_refused : {T : Type 0} (r : Result T E) → OnErr r (Outgrown joined_strs steps s)
        → YieldsList steps (λ x. chars x.now) s all → OnErr r (¬ (IsShort t))
    texts_refused r out gives = rw one at (on_err_weaker r (λ out. not_short-outgrown texts_lent out gives) out)

  -- read off each item x of it as h x,
  module _ {B : Type 0} (h : B → List ℕ) (xs : List B) where
    pub mapped_collected : (m : Meaning → Meaning) (r : Result Meaning E) → IfOk r (Collected joined_strs steps s m)
        → ((y : Meaning) → m y ≡ y) → YieldsList steps (λ x. chars x.now) s (map h xs)
        → IfOk r (λ y. IsValueOf (joined h xs) y)
    mapped_collected m r is eq gives = rw flat_map-map at (collected texts_lent m r is eq gives)

    pub mapped_refused : {T : Type 0} (r : Result T E) → OnErr r (Outgrown joined_strs steps s)
        → YieldsList steps (λ x. chars x.now) s (map h xs) → OnErr r (¬ (IsShort (joined h xs)))
    mapped_refused r out gives = texts_refused (joined h xs) (flat_map-map (λ t. t) h xs) r out gives

    pub mapped_extended : {T : Type 0} (r : Result T E) (old new : BuilderState) → OnOk r (AppendedAll joined_strs steps s old new)
        → YieldsList steps (λ x. chars x.now) s (map h xs) → OnOk r (new ≡ appended old (joined h xs))
    mapped_extended r old new is gives =
        rw flat_map-map at (on_ok_weaker r (λ all. text-appended texts_lent old new all gives) is)

    pub mapped_extend_refused : {T : Type 0} (r : Result T E) (old new : BuilderState)
        → OnErr r (StoppedAt joined_strs steps s old new) → YieldsList steps (λ x. chars x.now) s (map h xs)
        → OnErr r ((appended old (joined h xs)).kind ≡ OnHeap)
    mapped_extend_refused r old new out gives =
        rw flat_map-map at (on_err_weaker r (λ out. heap-stopped texts_lent old new out gives) out)

  -- or the pieces of a text t that is split at p, which are what is left where p is replaced by nothing
  module _ (t p : List ℕ) where
    pub split_collected : (m : Meaning → Meaning) (r : Result Meaning E) → IfOk r (Collected joined_strs steps s m)
        → ((y : Meaning) → m y ≡ y) → YieldsList steps (λ x. chars x.now) s (cut t p (no_limit t))
        → IfOk r (λ y. IsValueOf (replaced_all t p []) y)
    split_collected m r is eq gives = rw joined-nothing at (collected texts_lent m r is eq gives)

    pub split_refused : {T : Type 0} (r : Result T E) → OnErr r (Outgrown joined_strs steps s)
        → YieldsList steps (λ x. chars x.now) s (cut t p (no_limit t)) → OnErr r (¬ (IsShort (replaced_all t p [])))
    split_refused r out gives = texts_refused (replaced_all t p []) (joined-nothing (cut t p (no_limit t))) r out gives

-- of an array, whose list may have computed in the goal: its items' text is not short
module _ {n : ℕ} where
  pub array_chars_long : (s : IntoIter ℕ n) → Outgrown (λ xs. xs) array_steps s
      → (array_into_iter_items s ≡ array_into_iter_items s) × (INLINE_CAP < size (array_into_iter_items s))
  array_chars_long s out =
      (refl, omega (arith, not_short-outgrown characters out (YieldsList-from_array (array_into_iter_items s) refl)))

  pub array_strs_long : (s : IntoIter (Bor (List ℕ)) n) → Outgrown joined_strs array_steps s
      → (array_into_iter_items s ≡ array_into_iter_items s) × (INLINE_CAP < size (joined str_text (array_into_iter_items s)))
  array_strs_long s out =
      (refl, omega (arith, not_short-outgrown items_lent out (YieldsList-from_array (array_into_iter_items s) refl)))

  -- and the text that they have
  pub array_strs_collected : {E : Type 0} (m : Meaning → Meaning) (r : Result Meaning E) (t : List ℕ) (s : IntoIter (Bor (List ℕ)) n)
      → IfOk r (Collected joined_strs array_steps s m) → ((y : Meaning) → m y ≡ y) → joined str_text (array_into_iter_items s) ≡ t
      → IfOk r (λ y. IsValueOf t y)
  array_strs_collected m r t s is eq one = rw one at (collected items_lent m r is eq (YieldsList-from_array (array_into_iter_items s) refl))

-- the pieces of a text that is split at another
pub split_long : (s : Split (Bor (List ℕ))) → IsUtf8 (split_text s) → IsUtf8 (split_pattern s).now
    → 0 < length (split_pattern s).now → split_has_more s ≡ true
    → Outgrown joined_strs (split_steps (λ n. FindsText n.now) (λ n m. m.now ≡ n.now)) s
    → (split_text s ≡ split_text s)
    × (INLINE_CAP < size (replaced_all (chars (split_text s)) (chars (split_pattern s).now) []))
split_long s u v some more out =
    let gives = gives-split (split_pattern s) _ (split_pattern s).now (λ s o t h. h) u v some refl refl more refl in
    let long = rw joined-nothing at (not_short-outgrown texts_lent out gives) in
    (refl, omega (arith, long))

-- `filter_map` of items that are values
pub gives-filter_map : {S F A C : Type 0} {s : _} {ys : List A} {f : F} {steps : S → Option A → S → Type 0} (h : A → Option C)
    (g : Mut F (A × Unit {0}) (Option C)) → YieldsList steps (λ x. x) (filter_map_source s) ys → filter_map_callee s ≡ f
    → ((x : A) (r : Option C) (q : F) → Called g f (x, tt) r q → (q ≡ f) × (r ≡ h x))
    → YieldsList (filter_map_steps steps g) (λ y. y) s (filter_map h ys)
gives-filter_map h g gives c k = YieldsList-from_filter_map g h gives c k

-- for `#[tactic(auto, using(..))]` at a caller, and for `search (rules, collecting_chars)` at its goal; before each its parts.
-- Of characters,
pub ruleset char_sources = (gives-slice, gives-chars, gives-rev_chars, gives-map, gives-filter_map, gives-flat_chars, gives-take_chars, gives-skip_chars)

pub ruleset repeated_sources = (YieldsList-from_repeat_n, YieldsList-from_array)

pub ruleset cut_sources = (YieldsList-from_take_while, YieldsList-from_skip_while, YieldsList-from_chain, YieldsList-from_filter)

pub ruleset made_of_chars = (chars_collected, chars_refused, chars_extended, chars_extend_refused, chars_extend_stopped, array_chars_long)

pub ruleset collecting_chars = (char_sources, repeated_sources, cut_sources, chars-encodes, append-nil, made_of_chars)

-- of `&str`s,
pub ruleset str_sources = (gives-slice, gives-lines, gives-split_char, gives-copied, gives-rev_copied, gives-map_lent)

pub ruleset made_of_strs = (strs_collected, strs_refused, strs_extended, strs_extend_refused, strs_made)

pub ruleset made_of_mapped = (mapped_collected, mapped_refused, mapped_extended, mapped_extend_refused)

pub ruleset made_of_items = (items_collected, items_refused, items_extended, array_strs_long, array_strs_collected)

pub ruleset collecting_strs = (str_sources, chars-encodes, append-nil, made_of_strs, made_of_mapped, made_of_items)

-- of the pieces of a `split`,
pub ruleset collecting_pieces = (gives-split, gives-split_at, split_collected, split_refused, split_long)

-- and of `String`s
pub ruleset made_of_refs = (string_refs_collected, string_refs_refused, string_refs_extended, string_refs_extend_refused, string_refs_made)

pub ruleset collecting_strings = (gives-slice, gives-take_slice, gives-skip_slice, YieldsList-from_vec, strings_collected, strings_refused, strings_made, made_of_refs)
