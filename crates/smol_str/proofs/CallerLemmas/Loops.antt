-- Loops over what std's iterators lend, and what `map` and `try_collect` make of it.
use Rattle.smol_str.proofs.Common.{Bool, cond, Ok, Err, IfOk, refl, sym, ◌≡◌, Some, None, ap, ◌∙◌, Result, Option, Bor, true, ◌<◌, ◌+◌, ℕ, arith, ◌≤◌, nat_tests, nat_eq, get_or, take, map, List, [], ◌∷◌, ◌++◌, length, length-append, append-nil, append_assoc, items_from_drains, FoldsTo, All-nil, All-cons, YieldsList-from_chars, map-id, All, YieldsList, YieldsList-from_slice, flat_map}
use Rattle.smol_str.proofs.Common.{length-map, nil_from_length, take_all, take_more, pointwise, encode_utf8_all, chars, IsUtf8, encode_utf8, chars-nil, Meaning, size, map-append, false, false≢true, slice_get}
use Rattle.smol_str.proofs.CallerLemmas.Common.{slice_get_read, bytes_eq-Decides, texts, Vec, Yields, AlwaysYields, map_source, map_callee, enumerate_source, enumerate_count, enumerate_from, filter, fold, chars_rest, chars_steps, lines_rest, lines_steps, Chars, iter_rest, iter_steps, Iter, lines, YieldsList-from_lines, fold-append, flat_map-append, filter-append, filter_map-append, filter_more, get_or-map, map-map, Map, get_or_append_left, get_or_push}
use Rattle.std.proofs.Common.{◌⊎◌, ⊎_elim, inl, inr}
use Rattle.std.proofs.lemmas.Bool.{cases_lt}
use Rattle.std.proofs.lemmas.List.Folds.{concat-append}
use Rattle.smol_str.proofs.CallerLemmas.Builders.{size-cons}
use Rattle.smol_str.proofs.BuilderLemmas.State.{appended-twice, OnHeap-long}
use Rattle.std.specs.Vec.{vec_items}
use Rattle.std.specs.declared.iter.Enumerate.{Enumerate}
use Rattle.smol_str.proofs.TextLemmas.Sizes.{size-append, size-chars}
use Rattle.std.specs.declared.str.Lines.{Lines}
use Rattle.smol_str.proofs.CallerLemmas.Texts.{chars-cons, same_bytes}
use Rattle.smol_str.proofs.CallerLemmas.Values.{text_at}
use Rattle.smol_str.proofs.CallerLemmas.Iterators.{weaker}

-- ---- what `map` and `try_collect` make of what an iterator lends

-- the values of results, where all have one
abbrev pub oks : {A E : Type 0} → List (Result A E) → List A
oks [] = []
oks (Ok y ∷ rs) = y ∷ oks rs
oks (Err e ∷ rs) = oks rs

abbrev pub AreOk : {A E : Type 0} → List (Result A E) → Type 0
AreOk [] = Unit {0}
AreOk (Ok y ∷ rs) = AreOk rs
AreOk (Err e ∷ rs) = ⊥

-- what was collected are the values that the items held
pub collected_oks : {A E Z : Type 0} {adds : Vec A Z → Result A E → Vec A Z → Type 0} (rs : List (Result A E)) (b w : Vec A Z)
    → FoldsTo adds b rs w
    → ((p : Vec A Z) (r : Result A E) (q : Vec A Z) → adds p r q → (y : A) × (Ok y ≡ r) × (vec_items q ≡ vec_items p ++ y ∷ []))
    → (FoldsTo adds b rs w ≡ FoldsTo adds b rs w) × AreOk rs × (vec_items w ≡ vec_items b ++ oks rs)
collected_oks [] b w same one = (refl, tt, ap vec_items (sym same) ∙ sym (append-nil (vec_items b)))
collected_oks (Ok y ∷ rs) b w (j, added, rest) one =
    let others = collected_oks rs j w rest one in
    let this = one b (Ok y) j added in
    (refl, others.1, cc (others.2, this.1, this.2, append_assoc (vec_items b) (y ∷ []) (oks rs)))
collected_oks (Err e ∷ rs) b w (j, added, rest) one = let this = one b (Err e) j added in absurd (cc this.1)

-- those of a `map`, whose step is one of its source, and gives of what is lent what P says
module _ {S F A C E : Type 0} (steps : S → Option (Bor A) → S → Type 0) (P : A → C → Type 0) where
  abbrev pub MapsBy : (Map S F → Option (Result C E) → Map S F → Type 0) → F → Type 0
  MapsBy more f = (p : Map S F) (r : Result C E) (q : Map S F) → more p (Some r) q → map_callee p ≡ f
      → (x : Bor A) × steps (map_source p) (Some x) (map_source q) × (map_callee q ≡ f) × IfOk r (λ c. P x.now c)

  -- so w reads of them what h says of what was lent, and R holds of each
  module _ {D : Type 0} (w : C → D) (h : A → D) (R : C → Type 0) (tells : (y : A) (c : C) → P y c → (w c ≡ h y) × R c) where
    pub mapped : (more : Map S F → Option (Result C E) → Map S F → Type 0) (f : F) (rs : List (Result C E)) (s t : Map S F)
        → Yields more s rs t → map_callee s ≡ f → MapsBy more f → AreOk rs
        → (xs : List (Bor A)) × Yields steps (map_source s) xs (map_source t) × (map w (oks rs) ≡ map (λ x. h x.now) xs) × All R (oks rs)
    mapped more f [] s t same e by all = ([], ap map_source same, refl, All-nil R)
    mapped more f (Ok c ∷ rs) s t (j, on, run) e by all =
        let this = by s (Ok c) j on e in
        let others = mapped more f rs j t run this.2 by all in
        let told = tells this.0.now c this.3 in
        (this.0 ∷ others.0, (map_source j, this.1, others.1), cc (told.0, others.2), All-cons R c (oks rs) told.1 others.3)
    mapped more f (Err x ∷ rs) s t run e by all = absurd all

-- each of them is as R says
pub all_tried : {S F A C E : Type 0} (steps : S → Option (Bor A) → S → Type 0) (R : C → Type 0)
    (more : Map S F → Option (Result C E) → Map S F → Type 0) (rs : List (Result C E)) (s t : Map S F) → Yields more s rs t
    → AreOk rs → MapsBy steps (λ x c. R c) more (map_callee s) → All R (oks rs)
all_tried steps R more rs s t run all by =
    (mapped steps (λ x c. R c) (λ c. tt {0}) (λ x. tt {0}) R (λ y c holds. (refl, holds)) more (map_callee s) rs s t run refl by all).3

-- of a source that gives ys, where what w reads of each thing that is made is h of its item
tried : {S F A C D E : Type 0} (steps : S → Option (Bor A) → S → Type 0) (ys : List A)
    (more : Map S F → Option (Result C E) → Map S F → Type 0) (rs : List (Result C E)) (s t : Map S F) (w : C → D) (h : A → D)
    → YieldsList steps (λ x. x.now) (map_source s) ys → Yields more s rs t → ((u : Map S F) × more t None u)
    → ((p q : Map S F) → more p None q → steps (map_source p) None (map_source q)) → AreOk rs
    → MapsBy steps (λ y c. w c ≡ h y) more (map_callee s) → map w (oks rs) ≡ map h ys
tried {A = A} steps ys more rs s t w h gives run ends last all by =
    let made = mapped steps (λ y c. w c ≡ h y) w h (λ c. Unit {0}) (λ y c same. (same, tt)) more (map_callee s) rs s t run refl by all in
    let them = items_from_drains made.0 (map_source t, made.1, λ _. (map_source ends.0, last t ends.0 ends.1)) gives in
    made.2 ∙ sym (map-map h (λ (x : Bor A). x.now) made.0) ∙ ap (map h) them

-- a loop over the lines of a text, and `map` and `try_collect` of them
pub lines_yielded : {steps : Lines → Option (Bor (List ℕ)) → Lines → Type 0} (xs : List (Bor (List ℕ))) (s t : Lines)
    → Yields steps s xs t → ((u : Lines) × steps t None u)
    → ((s : Lines) (o : Option (Bor (List ℕ))) (t : Lines) → steps s o t → lines_steps s o t)
    → (Yields steps s xs t ≡ Yields steps s xs t) × (map (λ x. x.now) xs ≡ lines (lines_rest s))
lines_yielded {steps} xs s t run ends f =
    (refl, items_from_drains xs (t, run, λ _. ends) (weaker f (YieldsList-from_lines (lines_rest s) refl)))

pub lines_tried : {F C D E : Type 0} (more : Map Lines F → Option (Result C E) → Map Lines F → Type 0) (rs : List (Result C E))
    (s t : Map Lines F) (w : C → D) (h : List ℕ → D) → Yields more s rs t → ((u : Map Lines F) × more t None u)
    → ((p q : Map Lines F) → more p None q → lines_steps (map_source p) None (map_source q)) → AreOk rs
    → MapsBy lines_steps (λ y c. w c ≡ h y) more (map_callee s) → map w (oks rs) ≡ map h (lines (lines_rest (map_source s)))
lines_tried more rs s t w h =
    let rest = lines_rest (map_source s) in tried lines_steps (lines rest) more rs s t w h (YieldsList-from_lines rest refl)

-- and with their numbers, by `enumerate`. The type of an item is written differently in each function, and `grind` compares
-- types as they are written: so it is a variable, and g reads an item
abbrev pub as_lent : Enumerate Lines → List ℕ → Bor (List ℕ)
as_lent s line = record { ref_ptr = s.iter.rest.ref_ptr; now = line }

-- a step from s to t gave the number and the line p
abbrev pub IsNumbered : Enumerate Lines → ℕ × List ℕ → Enumerate Lines → Type 0
IsNumbered s p t =
    (p.0 ≡ enumerate_count s) × (enumerate_count t ≡ enumerate_count s + 1)
    × lines_steps (enumerate_source s) (Some (as_lent s p.1)) (enumerate_source t)

module _ {A : Type 0} (steps : Enumerate Lines → Option A → Enumerate Lines → Type 0)
    (last : (s t : Enumerate Lines) → steps s None t → lines_steps (enumerate_source s) None (enumerate_source t))
    (g : A → ℕ × List ℕ)
    (by : (s : Enumerate Lines) (x : A) (t : Enumerate Lines) → steps s (Some x) t → IsNumbered s (g x) t) where
  number_each : (n : ℕ) (s : Enumerate Lines) (ys : List (List ℕ)) → enumerate_count s ≡ n
      → AlwaysYields lines_steps (λ x. x.now) (enumerate_source s) ys → AlwaysYields steps g s (enumerate_from n ys)
  number_each n s [] at h = λ x t step. h (as_lent s (g x).1) (enumerate_source t) (by s x t step).2
  number_each n s (y ∷ ys) at h = (
    λ t step. h.0 (enumerate_source t) (last s t step),
    λ x t step.
        let this = by s x t step in
        let rest = h.1 (as_lent s (g x).1) (enumerate_source t) this.2 in
        ((λ i. ((this.0 ∙ at) i, rest.0 i)), number_each (n + 1) t ys (this.1 ∙ ap (λ m. m + 1) at) rest.1),
  )

pub lines_numbered : {A : Type 0} (steps : Enumerate Lines → Option A → Enumerate Lines → Type 0) (xs : List A)
    (s t : Enumerate Lines) → Yields steps s xs t → ((u : Enumerate Lines) × steps t None u) → enumerate_count s ≡ 0
    → (Yields steps s xs t ≡ Yields steps s xs t)
    × ((g : A → ℕ × List ℕ)
    → ((s t : Enumerate Lines) → steps s None t → lines_steps (enumerate_source s) None (enumerate_source t))
    → ((s : Enumerate Lines) (x : A) (t : Enumerate Lines) → steps s (Some x) t → IsNumbered s (g x) t)
    → map g xs ≡ enumerate_from 0 (lines (lines_rest (enumerate_source s))))
lines_numbered steps xs s t run ends first = (
  refl,
  λ g last by.
      let rest = lines_rest (enumerate_source s) in
      let gives : YieldsList steps g s (enumerate_from 0 (lines rest)) =
      record { runs = number_each steps last g by 0 s (lines rest) first (YieldsList-from_lines rest refl).runs } in
      items_from_drains xs (t, run, λ _. ends) gives,
)

-- one thing more, at a place: what holds of all so far, and of it, holds there
pub at_pushed : {A B : Type 0} (f : A → B) (xs : List A) (x : A) (k : ℕ) (d : B) → k < length (map f (xs ++ x ∷ []))
    → ((k < length (map f xs)) × (get_or (map f (xs ++ x ∷ [])) k d ≡ get_or (map f xs) k d))
    ⊎ (get_or (map f (xs ++ x ∷ [])) k d ≡ f x)
at_pushed f xs x k d within =
    let more = map-append f xs (x ∷ []) in
    let long = ap length more ∙ length-append (map f xs) (f x ∷ []) in
    ⊎_elim
    (λ (here : k < length (map f xs)).
    inl (here, ap (λ l. get_or l k d) more ∙ get_or_append_left (map f xs) (f x ∷ []) d k here))
    (λ past. inr (ap (λ l. get_or l k d) more ∙ get_or_push (map f xs) (f x) d k (omega (arith, past, within, long))))
    (cases_lt k (length (map f xs)))

-- a loop whose invariant folds, maps or filters what was yielded goes on by `fold-append` and the like
pub ruleset by_line = (lines_yielded, lines_tried, lines_numbered, collected_oks, map-append, filter_map-append, append-nil, fold-append, at_pushed)

-- a loop over the characters of a text: all of them at its end, and in it no more than all
module _ {steps : Chars → Option ℕ → Chars → Type 0} (xs : List ℕ) (s t : Chars) (run : Yields steps s xs t)
    (by : (s : Chars) (o : Option ℕ) (t : Chars) → steps s o t → chars_steps s o t) where
  pub chars_yielded : ((u : Chars) × steps t None u) → (Yields steps s xs t ≡ Yields steps s xs t)
      × ((bs : List ℕ) → chars_rest s ≡ bs → IsUtf8 bs → xs ≡ chars bs)
  chars_yielded ends = (
    refl,
    λ bs rest u.
        sym (map-id xs) ∙ items_from_drains xs (t, run, λ _. ends) (weaker by (YieldsList-from_chars bs u rest)),
  )

  read_off : (xs : List ℕ) (s : Chars) → Yields steps s xs t → chars_rest s ≡ encode_utf8_all xs ++ chars_rest t
  read_off [] s same = ap chars_rest same
  read_off (x ∷ xs) s (j, this, others) =
      (by s (Some x) j this).0 ∙ ap (λ bs. encode_utf8 x ++ bs) (read_off xs j others)
      ∙ sym (append_assoc (encode_utf8 x) (encode_utf8_all xs) (chars_rest t))

  pub chars_begun : (Yields steps s xs t ≡ Yields steps s xs t)
      × ((bs w : List ℕ) (c : ℕ) → chars_rest s ≡ bs → IsUtf8 bs → chars_rest t ≡ encode_utf8 c ++ w
      → size (xs ++ c ∷ []) ≤ size (chars bs))
  chars_begun = (
    refl,
    λ bs w c rest u next.
        let read = ap length (sym rest ∙ read_off xs s run ∙ ap (λ b. encode_utf8_all xs ++ b) next) in
        omega (arith, size-append xs (c ∷ []), ap length (append-nil (encode_utf8 c)), size-chars bs u, read, length-append {A = ℕ}),
  )

pub ruleset by_char = (arith, chars_yielded, chars_begun, appended-twice, OnHeap-long, size-cons, size-append)

-- what a loop has so far, and with one item more, where it looks at what it has, writes something for each item, or keeps some
pub fold-push : {A B : Type 0} (f : B → A → B) (b : B) (xs : List A) (x : A) → fold f b (xs ++ x ∷ []) ≡ f (fold f b xs) x
fold-push f b xs x = fold-append f b xs (x ∷ [])

pub flat_map-push : {X A : Type 0} (f : X → List A) (xs : List X) (x : X) → flat_map f (xs ++ x ∷ []) ≡ flat_map f xs ++ f x
flat_map-push f xs x = flat_map-append f xs (x ∷ []) ∙ ap (λ l. flat_map f xs ++ l) (append-nil (f x))

pub filter-push : {X : Type 0} (p : X → Bool) (xs : List X) (x : X) → filter p (xs ++ x ∷ []) ≡ filter p xs ++ cond (p x) (x ∷ []) []
filter-push p xs x = filter-append p xs (x ∷ [])

pub ruleset pushes = (fold-push, flat_map-push, filter-push)

-- a loop over characters that pushes some, or something for each
pub ruleset by_char_some = (chars_yielded, pushes, appended-twice, append-nil, append_assoc, nil_from_length, chars-cons, chars-nil, nat_tests)

-- and of the items of a slice
pub items_tried : {A F C D E : Type 0} (more : Map (Iter A) F → Option (Result C E) → Map (Iter A) F → Type 0) (rs : List (Result C E))
    (s t : Map (Iter A) F) (w : C → D) (h : A → D) → Yields more s rs t → ((u : Map (Iter A) F) × more t None u)
    → ((p q : Map (Iter A) F) → more p None q → iter_steps (map_source p) None (map_source q)) → AreOk rs
    → MapsBy iter_steps (λ y c. w c ≡ h y) more (map_callee s) → map w (oks rs) ≡ map h (iter_rest (map_source s))
items_tried more rs s t w h =
    let rest = iter_rest (map_source s) in tried iter_steps rest more rs s t w h (YieldsList-from_slice rest refl)

-- a loop over a slice that keeps some of its items, which a function pushes where they are wanted
pub kept : {X : Type 0} (p : X → Bool) (xs : List X) (i : ℕ) → (filter p (take (i + 1) xs) ≡ filter p (take (i + 1) xs))
    × ((x : X) → i < length xs → x ≡ get_or xs i x → filter p (take (i + 1) xs) ≡ filter p (take i xs) ++ cond (p x) (x ∷ []) [])
kept p xs i =
    (refl, λ x h at. filter_more p xs i x h ∙ (λ j. filter p (take i xs) ++ cond (p (sym at j)) (sym at j ∷ []) []))

pub ruleset by_item = (items_tried, all_tried, collected_oks, kept)

-- a loop over values whose invariant speaks of the texts so far: one more, and all
pub texts_more : (vs : List Meaning) (i : ℕ) → (take (i + 1) (texts vs) ≡ take (i + 1) (texts vs))
    × ((v : Meaning) → i < length vs → v ≡ get_or vs i v → take (i + 1) (texts vs) ≡ take i (texts vs) ++ v.text ∷ [])
texts_more vs i = (
  refl,
  λ v within at.
      let long : i < length (texts vs) = omega (arith, within, length-map vs (λ (v : Meaning). v.text)) in
      cc (take_more (texts vs) i v.text long, get_or-map (λ (v : Meaning). v.text) vs i v v.text within, at),
)

pub texts_all : (vs : List Meaning) (n : ℕ) → n ≡ length vs → take n (texts vs) ≡ texts vs
texts_all vs n e = take_all n (texts vs) (omega (arith, e, length-map vs (λ (v : Meaning). v.text)))

pub ruleset by_text = (texts_more, texts_all, fold-push, same_bytes)

-- the same where the invariant measures what was read so far
pub ruleset sized = (by_text, concat-append, append-nil, size-append)

-- the pieces of any items, measured: those so far, and one more
pub size_more : {X : Type 0} (f : X → List ℕ) (xs : List X) (i : ℕ) (x : X) → i < length xs → x ≡ get_or xs i x
    → size (flat_map f (take (i + 1) xs)) ≡ size (flat_map f (take i xs)) + size (f x)
size_more f xs i x within is =
    ap (λ ys. size (flat_map f ys)) (take_more xs i x within ∙ (λ j. take i xs ++ (sym is j) ∷ []))
    ∙ ap size (flat_map-push f (take i xs) x) ∙ size-append (flat_map f (take i xs)) (f x)

-- a loop over two lists of values side by side, whose texts are the same so far
pub same_front : (vs ws : List Meaning) (i : ℕ) (v w : Meaning) → take i (texts vs) ≡ take i (texts ws) → i < length vs → i < length ws
    → v ≡ get_or vs i v → w ≡ get_or ws i w → pointwise nat_eq v.text w.text ≡ true → take (i + 1) (texts vs) ≡ take (i + 1) (texts ws)
same_front vs ws i v w front left right at there same =
    cc ((texts_more vs i).1 v left at, front, same_bytes v.text w.text same, (texts_more ws i).1 w right there)

-- and where they differ
pub differ_there : (vs ws : List Meaning) (i : ℕ) (v w : Meaning) → i < length vs → i < length ws → v ≡ get_or vs i v
    → w ≡ get_or ws i w → pointwise nat_eq v.text w.text ≡ false → ¬ (slice_get (texts vs) i ≡ slice_get (texts ws) i)
differ_there vs ws i v w left right at there other same =
    let one = text_at vs i v (slice_get_read vs (length vs) i v refl left at) in
    let two = text_at ws i w (slice_get_read ws (length ws) i w refl right there) in
    let e : v.text ≡ w.text = cc (one, two, same) in
    false≢true (sym other ∙ (bytes_eq-Decides v.text w.text).1 e)

pub ruleset side_by_side = (same_front, differ_there)
