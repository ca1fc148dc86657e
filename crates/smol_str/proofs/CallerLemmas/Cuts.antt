-- Texts that std cuts into pieces, by `split`, and joins, at the level of texts.
use Rattle.smol_str.proofs.Common.{arith, flat_map, items_from_drains, YieldsList, ◌≡◌, ℕ, ◌-◌, ◌+◌, ◌<◌, ◌≤◌, true, List, [], ◌∷◌, ◌++◌, length, map, str_text, Bor, Option, None, refl, sym, ap, ◌∙◌, subst, IsUtf8, chars, chars-nil, encode_utf8_all, encodes-append, encodes-chars, chars_from_encodes, Occurs, IsFirstAfter, joined_by, cut, no_limit, Meaning, All, All-cons, All-head}
use Rattle.smol_str.proofs.Common.{All-nil, All-tail, IfSome, Result, append_assoc, but_last, get_or}
use Rattle.smol_str.proofs.CallerLemmas.Common.{join_by, last_or, split_steps, split_text, split_has_more, split_pattern, FindsChar, FindsText, Split, drop-map, length-map, map-set, set_past, take-map, get_or-map, map_source, map_callee, Map, map-map, texts, IsValueOf, ◌≢◌, Yields, AlwaysYields}
use Rattle.std.proofs.lemmas.List.Folds.{list_any_at}
use Rattle.smol_str.proofs.CallerLemmas.Common.{bytes_eq, bytes_eq-Decides, list_any, trim, skip_leading_whitespace, drop_trailing_whitespace}
use Rattle.smol_str.proofs.CallerLemmas.CutOnce.{chars-trim}
use Rattle.std.proofs.Common.{Bool, false, take, drop, Ok, Err, MatchOption, Contains, zero, suc, Some}
use Rattle.smol_str.specs.Text.{place_of}
use Rattle.smol_str.proofs.TextLemmas.Sizes.{some_char}
use Rattle.smol_str.proofs.CutLemmas.Cut.{IsCut-cut}
use Rattle.smol_str.proofs.CallerLemmas.Loops.{AreOk, MapsBy, collected_oks, mapped, oks}
use Rattle.smol_str.proofs.CallerLemmas.Values.{map-texts}
use Rattle.smol_str.proofs.CallerLemmas.Texts.{IsLiteral, IsUtf8-one, chars-cons, literal-utf8}
use Rattle.smol_str.proofs.CallerLemmas.Wire.{items}
use Rattle.smol_str.proofs.CutLemmas.Replace.{few_pieces, replaced-itself}
use Rattle.smol_str.proofs.CallerLemmas.Splits.{Finds, found_char, gives-split, gives-split_at}

-- ---- a loop over `split` that makes a value of each piece, where `AreValuesOf (map str_text l.yielded) l.values.items`

-- at the end the pieces are those of the cut, and joined they are the text
are_pieces : {S : Type 0} (steps : S → Option (Bor (List ℕ)) → S → Type 0) (xs : List (Bor (List ℕ))) (s t : S) (q p : List ℕ)
    → Yields steps s xs t → ((u : S) × steps t None u) → YieldsList steps str_text s (cut q p (no_limit q))
    → (map str_text xs ≡ cut q p (no_limit q)) × (joined_by p (map str_text xs) ≡ q)
are_pieces steps xs s t q p runs ends gives =
    let is = items_from_drains xs (t, runs, λ _. ends) gives in
    (is, ap (joined_by p) is ∙ replaced-itself q p (no_limit q))

-- at a character
pub split_at_char : {steps : Split ℕ → Option (Bor (List ℕ)) → Split ℕ → Type 0} (xs : List (Bor (List ℕ))) (s t : Split ℕ)
    → Yields steps s xs t → ((u : Split ℕ) × steps t None u)
    → ((s : _) (o : _) (t : _) → steps s o t → split_steps FindsChar (λ a b. b ≡ a) s o t) → split_has_more s ≡ true
    → (Yields steps s xs t ≡ Yields steps s xs t)
    × ((bs : List ℕ) (c : ℕ) → split_text s ≡ bs → split_pattern s ≡ c → IsUtf8 bs
    → map str_text xs ≡ cut (chars bs) (c ∷ []) (no_limit (chars bs)))
    × ((bs : List ℕ) (c : ℕ) → split_text s ≡ bs → split_pattern s ≡ c → IsUtf8 bs → joined_by (c ∷ []) (map str_text xs) ≡ chars bs)
split_at_char {steps} xs s t runs ends f more =
    let both = λ (bs : List ℕ) (c : ℕ) (text : split_text s ≡ bs) (is : split_pattern s ≡ c) (u : IsUtf8 bs).
    are_pieces steps xs s t (chars bs) (c ∷ []) runs ends (gives-split_at c bs f u text more is) in
    (refl, λ bs c text is u. (both bs c text is u).0, λ bs c text is u. (both bs c text is u).1)

-- and at a text
pub split_at_text : {steps : Split (Bor (List ℕ)) → Option (Bor (List ℕ)) → Split (Bor (List ℕ)) → Type 0}
    (xs : List (Bor (List ℕ))) (s t : Split (Bor (List ℕ))) → Yields steps s xs t → ((u : Split (Bor (List ℕ))) × steps t None u)
    → ((s : _) (o : _) (t : _) → steps s o t → split_steps (λ (n : Bor (List ℕ)). FindsText n.now) (λ n m. m.now ≡ n.now) s o t)
    → split_has_more s ≡ true → (Yields steps s xs t ≡ Yields steps s xs t)
    × ((bs nd : List ℕ) → split_text s ≡ bs → (split_pattern s).now ≡ nd → IsUtf8 bs → IsUtf8 nd → 0 < length nd
    → map str_text xs ≡ cut (chars bs) (chars nd) (no_limit (chars bs)))
    × ((bs nd : List ℕ) → split_text s ≡ bs → (split_pattern s).now ≡ nd → IsUtf8 bs → IsUtf8 nd → 0 < length nd
    → joined_by (chars nd) (map str_text xs) ≡ chars bs)
split_at_text {steps} xs s t runs ends f more =
    let both = λ (bs nd : List ℕ) (text : split_text s ≡ bs) (is : (split_pattern s).now ≡ nd) (u : IsUtf8 bs) (v : IsUtf8 nd)
    (some : 0 < length nd). are_pieces steps xs s t (chars bs) (chars nd) runs ends
    (gives-split (split_pattern s) bs nd f u v some is text more refl) in
    (refl, λ bs nd text is u v some. (both bs nd text is u v some).0, λ bs nd text is u v some. (both bs nd text is u v some).1)

-- which may be a literal of ASCII
pub split_at_literal : {steps : Split (Bor (List ℕ)) → Option (Bor (List ℕ)) → Split (Bor (List ℕ)) → Type 0}
    (xs : List (Bor (List ℕ))) (s t : Split (Bor (List ℕ))) (bs nd : List ℕ) → Yields steps s xs t
    → ((u : Split (Bor (List ℕ))) × steps t None u)
    → ((s : _) (o : _) (t : _) → steps s o t → split_steps (λ (n : Bor (List ℕ)). FindsText n.now) (λ n m. m.now ≡ n.now) s o t)
    → split_has_more s ≡ true → split_text s ≡ bs → (split_pattern s).now ≡ nd → IsUtf8 bs → IsLiteral nd → 0 < length nd
    → map str_text xs ≡ cut (chars bs) (chars nd) (no_limit (chars bs))
split_at_literal xs s t bs nd runs ends f more text is u low some =
    (split_at_text xs s t runs ends f more).1 bs nd text is u (literal-utf8 nd low) some

-- the pieces where `map` and `try_collect` make the values
tried_pieces : {S F E : Type 0} (steps : S → Option (Bor (List ℕ)) → S → Type 0) (more : Map S F → Option (Result Meaning E) → Map S F → Type 0)
    (rs : List (Result Meaning E)) (s t : Map S F) → Yields more s rs t → ((u : Map S F) × more t None u)
    → MapsBy steps (λ bs v. IsValueOf (chars bs) v) more (map_callee s)
    → ((p q : Map S F) → more p None q → steps (map_source p) None (map_source q)) → AreOk rs
    → ((ps : List (List ℕ)) → YieldsList steps str_text (map_source s) ps → texts (oks rs) ≡ ps) × All (λ v. v.place ≡ place_of v.text) (oks rs)
tried_pieces steps more rs s t run ends by last all =
    let made = mapped steps (λ bs v. IsValueOf (chars bs) v) (λ v. v.text) chars (λ v. v.place ≡ place_of v.text)
    (λ bs v is. (is.text, is.place ∙ ap place_of (sym is.text))) more (map_callee s) rs s t run refl by all in (
      λ ps gives. made.2 ∙ items_from_drains made.0 (map_source t, made.1, λ _. (map_source ends.0, last t ends.0 ends.1)) gives,
      made.3,
    )

-- at a character
pub tried_at_char : {F E : Type 0} (more : Map (Split ℕ) F → Option (Result Meaning E) → Map (Split ℕ) F → Type 0)
    (rs : List (Result Meaning E)) (s t : Map (Split ℕ) F) → Yields more s rs t → ((u : Map (Split ℕ) F) × more t None u)
    → MapsBy (split_steps FindsChar (λ a b. b ≡ a)) (λ bs v. IsValueOf (chars bs) v) more (map_callee s)
    → ((p q : Map (Split ℕ) F) → more p None q → split_steps FindsChar (λ a b. b ≡ a) (map_source p) None (map_source q))
    → split_has_more (map_source s) ≡ true → AreOk rs → (Yields more s rs t ≡ Yields more s rs t)
    × ((bs : List ℕ) (c : ℕ) → split_text (map_source s) ≡ bs → split_pattern (map_source s) ≡ c → IsUtf8 bs
    → texts (oks rs) ≡ cut (chars bs) (c ∷ []) (no_limit (chars bs)))
    × All (λ v. v.place ≡ place_of v.text) (oks rs)
tried_at_char more rs s t run ends by last live all =
    let made = tried_pieces (split_steps FindsChar (λ a b. b ≡ a)) more rs s t run ends by last all in
    (refl, λ bs c text is u. made.0 _ (gives-split_at c bs (λ s o t h. h) u text live is), made.1)

-- and at a text
pub tried_at_text : {F E : Type 0} (more : Map (Split (Bor (List ℕ))) F → Option (Result Meaning E) → Map (Split (Bor (List ℕ))) F → Type 0)
    (rs : List (Result Meaning E)) (s t : Map (Split (Bor (List ℕ))) F) → Yields more s rs t → ((u : Map (Split (Bor (List ℕ))) F) × more t None u)
    → MapsBy (split_steps (λ (n : Bor (List ℕ)). FindsText n.now) (λ n m. m.now ≡ n.now)) (λ bs v. IsValueOf (chars bs) v) more (map_callee s)
    → ((p q : Map (Split (Bor (List ℕ))) F) → more p None q → split_steps (λ (n : Bor (List ℕ)). FindsText n.now) (λ n m. m.now ≡ n.now) (map_source p) None (map_source q))
    → split_has_more (map_source s) ≡ true → AreOk rs → (Yields more s rs t ≡ Yields more s rs t)
    × ((bs nd : List ℕ) → split_text (map_source s) ≡ bs → (split_pattern (map_source s)).now ≡ nd → IsUtf8 bs → IsUtf8 nd → 0 < length nd
    → texts (oks rs) ≡ cut (chars bs) (chars nd) (no_limit (chars bs)))
    × All (λ v. v.place ≡ place_of v.text) (oks rs)
tried_at_text more rs s t run ends by last live all =
    let made = tried_pieces (split_steps (λ (n : Bor (List ℕ)). FindsText n.now) (λ n m. m.now ≡ n.now)) more rs s t run ends by last all in
    (refl, λ bs nd text is u v some. made.0 _ (gives-split (split_pattern (map_source s)) bs nd (λ s o t h. h) u v some is text live refl), made.1)

-- the pieces, without the white space around each, where `map` and `try_collect` make the values: each piece is UTF-8
abbrev at_char : Split ℕ → Option (Bor (List ℕ)) → Split ℕ → Type 0
at_char = split_steps FindsChar (λ a b. b ≡ a)

abbrev IsTextLeft : Split ℕ → Type 0
IsTextLeft s = split_has_more s ≡ true → IsUtf8 (split_text s)

piece_utf8 : (p w x rest : List ℕ) (live : Bool) (o : Option (ℕ × ℕ)) → Finds p w o
    → MatchOption o ((x ≡ w) × (live ≡ false)) (λ q. 0 < q.1 → (x ≡ take q.0 w) × (live ≡ true) × (rest ≡ drop q.1 w))
    → IsUtf8 w → IsUtf8 x × (live ≡ true → IsUtf8 rest)
piece_utf8 p w x rest live None none (e, f) u = (rw e u, λ more. cc)
piece_utf8 p w x rest live (Some q) (on, front, behind, whole, first) said u =
    let m = said on in (rw m.0 front, λ more. rw m.2 behind)

step_utf8 : (s t : Split ℕ) (x : Bor (List ℕ)) → at_char s (Some x) t → IsTextLeft s → IsUtf8 x.now × IsTextLeft t
step_utf8 s t x k left =
    let u = left (sym k.0) in
    let o = k.1.1.1 in
    piece_utf8 (split_pattern s ∷ []) (split_text s) x.now (split_text t) (split_has_more t) o.0
    (found_char (split_text s) u (split_pattern s) o.0 o.1) o.2 u

abbrev trimmed_text : List ℕ → List ℕ
trimmed_text t = drop_trailing_whitespace (skip_leading_whitespace t)

module _ {F E : Type 0} (more : Map (Split ℕ) F → Option (Result Meaning E) → Map (Split ℕ) F → Type 0) where
  trimmed_pieces : (f : F) (rs : List (Result Meaning E)) (s t : Map (Split ℕ) F) → Yields more s rs t → map_callee s ≡ f
      → MapsBy at_char (λ bs v. IsValueOf (chars (trim bs)) v) more f → AreOk rs → IsTextLeft (map_source s)
      → (xs : List (Bor (List ℕ))) × Yields at_char (map_source s) xs (map_source t)
      × (texts (oks rs) ≡ map (λ x. trimmed_text (chars x.now)) xs)
  trimmed_pieces f [] s t same e by all left = ([], ap map_source same, refl)
  trimmed_pieces f (Ok v ∷ rs) s t (j, on, run) e by all left =
      let this = by s (Ok v) j on e in
      let one = step_utf8 (map_source s) (map_source j) this.0 this.1 left in
      let others = trimmed_pieces f rs j t run this.2 by all one.1 in
      (this.0 ∷ others.0, (map_source j, this.1, others.1), cc (this.3.text, chars-trim this.0.now one.0, others.2))
  trimmed_pieces f (Err x ∷ rs) s t run e by all left = absurd all

  pub trimmed_at_char : (rs : List (Result Meaning E)) (s t : Map (Split ℕ) F) → Yields more s rs t
      → ((u : Map (Split ℕ) F) × more t None u) → MapsBy at_char (λ bs v. IsValueOf (chars (trim bs)) v) more (map_callee s)
      → ((p q : Map (Split ℕ) F) → more p None q → at_char (map_source p) None (map_source q))
      → split_has_more (map_source s) ≡ true → AreOk rs → (Yields more s rs t ≡ Yields more s rs t)
      × ((bs : List ℕ) (c : ℕ) → split_text (map_source s) ≡ bs → split_pattern (map_source s) ≡ c → IsUtf8 bs
      → texts (oks rs) ≡ map trimmed_text (cut (chars bs) (c ∷ []) (no_limit (chars bs))))
  trimmed_at_char rs s t run ends by last live all = (
    refl,
    λ bs c text is u.
        let made = trimmed_pieces (map_callee s) rs s t run refl by all (λ _. subst IsUtf8 (sym text) u) in
        let gives = gives-split_at c bs (λ s o t h. h) u text live is in
        let them = items_from_drains made.0 (map_source t, made.1, λ _. (map_source ends.0, last t ends.0 ends.1)) gives in
        made.2 ∙ sym (map-map trimmed_text str_text made.0) ∙ ap (map trimmed_text) them,
  )

pub ruleset by_piece = (trimmed_at_char, collected_oks)

-- joined where they were cut
pub joined-cut : (p t : List ℕ) (n : ℕ) → joined_by p (cut t p n) ≡ t
joined-cut p t n = replaced-itself t p n

-- what the text was cut at occurs in no piece
pub first-lacks : (p q : List ℕ) → IsFirstAfter p q → ¬ Occurs p q
first-lacks p q first (a, r, e) = first (a, r ++ but_last p, rw e (simp append_assoc))

all_lack : (p : List ℕ) (pieces : List (List ℕ)) → 1 ≤ length pieces → All (λ q. IsFirstAfter p q) (but_last pieces)
    → IfSome (last_or None pieces) (λ q. ¬ Occurs p q) → All (λ q. ¬ Occurs p q) pieces
all_lack p [] some first last = absurd (omega arith)
all_lack p (q ∷ []) some first last = All-cons (λ q. ¬ Occurs p q) q [] last (All-nil (λ q. ¬ Occurs p q))
all_lack p (q ∷ r ∷ rs) some first last =
    All-cons (λ q. ¬ Occurs p q) q (r ∷ rs) (first-lacks p q (All-head (λ q. IsFirstAfter p q) q (but_last (r ∷ rs)) first))
    (all_lack p (r ∷ rs) (omega arith) (All-tail (λ q. IsFirstAfter p q) q (but_last (r ∷ rs)) first) last)

pub pieces-lack : (t p : List ℕ) → 0 < length p → All (λ q. ¬ Occurs p q) (cut t p (no_limit t))
pieces-lack t [] some = absurd (omega arith)
pieces-lack t (c ∷ p) some =
    let h = IsCut-cut t (c ∷ p) (no_limit t) in
    let few = few_pieces (c ∷ p) (cut t (c ∷ p) (no_limit t)) (omega arith) in
    all_lack (c ∷ p) _ h.some h.first (h.complete (omega (arith, few, ap length h.joined)))

-- so of values that are these pieces: at a character, and at a text, which may be a literal of ASCII
module _ (values : List Meaning) (k : ℕ) (d : Meaning) (a r : List ℕ) (within : k < length values) where
  lacked : (t p : List ℕ) → texts values ≡ cut t p (no_limit t) → 0 < length p → (get_or values k d).text ≢ a ++ (p ++ r)
  lacked t p are some e =
      let n : k < length (texts values) = omega (arith, within, length-map values (λ (v : Meaning). v.text)) in
      let at : get_or (texts values) k d.text ≡ (get_or values k d).text = get_or-map (λ (v : Meaning). v.text) values k d d.text within in
      (subst (λ pieces. All (λ q. ¬ Occurs p q) pieces) (sym are) (pieces-lack t p some)) k d.text n (a, r, at ∙ e)

  pub char_lacked : (t : List ℕ) (c : ℕ) → texts values ≡ cut t (c ∷ []) (no_limit t) → (get_or values k d).text ≢ a ++ (c ∷ r)
  char_lacked t c are = lacked t (c ∷ []) are (omega arith)

  pub text_lacked : (t nd : List ℕ) → texts values ≡ cut t (chars nd) (no_limit t) → 0 < length nd → IsUtf8 nd
      → (get_or values k d).text ≢ a ++ (chars nd ++ r)
  text_lacked t nd are some u = lacked t (chars nd) are (some_char nd u some)

  pub literal_lacked : (t nd : List ℕ) → texts values ≡ cut t (chars nd) (no_limit t) → 0 < length nd → IsLiteral nd
      → (get_or values k d).text ≢ a ++ (chars nd ++ r)
  literal_lacked t nd are some low = text_lacked t nd are some (literal-utf8 nd low)

-- values joined by std's `join`, whose contract speaks of bytes: those of the joined text
module _ (p : List ℕ) (u : IsUtf8 p) where
  bytes-behind : (vs : List Meaning) → flat_map (λ (v : Meaning). p ++ encode_utf8_all v.text) vs
      ≡ encode_utf8_all (flat_map (λ (t : List ℕ). chars p ++ t) (texts vs))
  bytes-behind [] = refl
  bytes-behind (v ∷ vs) =
      let more = flat_map (λ (t : List ℕ). chars p ++ t) (texts vs) in
      cc (bytes-behind vs, encodes-append (chars p ++ v.text) more, encodes-append (chars p) v.text, encodes-chars p u)

  pub joined-bytes : (vs : List Meaning) → join_by (λ (v : Meaning). encode_utf8_all v.text) p vs
      ≡ encode_utf8_all (joined_by (chars p) (texts vs))
  joined-bytes [] = refl
  joined-bytes (v ∷ vs) =
      cc (bytes-behind vs, encodes-append v.text (flat_map (λ (t : List ℕ). chars p ++ t) (texts vs)))

-- no piece of a cut has what it was cut at
pub ruleset pieces_lack = (char_lacked, text_lacked, literal_lacked)

pub ruleset all_split = (split_at_char, split_at_text, split_at_literal)

pub ruleset cutting = (items, chars-cons, chars-nil, all_split, IsUtf8-one, tried_at_char, tried_at_text, collected_oks)

-- values joined, also those that a text was cut into, and some of them, or with one changed
pub ruleset changed_lists = (map-set, take-map, drop-map, length-map, map-texts, set_past)

pub ruleset joining = (IsUtf8-one, chars-cons, chars-nil, changed_lists, joined-cut, joined-bytes, chars_from_encodes, encodes-append, encodes-chars)

-- ---- a piece that a loop over `split` is at is among the pieces of the cut, also where the loop then returns
module _ {S A B : Type 0} (steps : S → Option A → S → Type 0) (v : A → B) (x : A) (t u : S) (next : steps t (Some x) u) where
  here : (ys : List B) → AlwaysYields steps v t ys → Contains ys (v x)
  here [] all = absurd (all x u next)
  here (y ∷ ys) all = (zero, omega arith, sym (all.1 x u next).0)

  yields_among : (xs : List A) (s : S) (ys : List B) → Yields steps s xs t → AlwaysYields steps v s ys → Contains ys (v x)
  yields_among [] s ys runs all = here ys (subst (λ s. AlwaysYields steps v s ys) runs all)
  yields_among (z ∷ xs) s [] runs all = absurd (all z runs.0 runs.1)
  yields_among (z ∷ xs) s (y ∷ ys) runs all =
      let rest = yields_among xs runs.0 ys runs.2 (all.1 z runs.0 runs.1).1 in
      (suc rest.0, omega (arith, rest.1), rest.2)

piece_among : {steps : Split ℕ → Option (Bor (List ℕ)) → Split ℕ → Type 0} (bs : List ℕ) (c : ℕ) (xs : List (Bor (List ℕ)))
    (x : Bor (List ℕ)) (s t u : Split ℕ) → split_text s ≡ bs → split_pattern s ≡ c → IsUtf8 bs → Yields steps s xs t
    → steps t (Some x) u
    → ((s : _) (o : _) (t : _) → steps s o t → split_steps FindsChar (λ a b. b ≡ a) s o t) → split_has_more s ≡ true
    → Contains (cut (chars bs) (c ∷ []) (no_limit (chars bs))) (chars x.now)
piece_among {steps} bs c xs x s t u text is v runs next f more =
    yields_among steps str_text x t u next xs s _ runs (gives-split_at c bs f v text more is).runs

text_piece_among : {steps : Split (Bor (List ℕ)) → Option (Bor (List ℕ)) → Split (Bor (List ℕ)) → Type 0} (bs nd : List ℕ)
    (xs : List (Bor (List ℕ))) (x : Bor (List ℕ)) (s t u : Split (Bor (List ℕ))) → split_text s ≡ bs
    → (split_pattern s).now ≡ nd → IsUtf8 bs → IsUtf8 nd → 0 < length nd → Yields steps s xs t → steps t (Some x) u
    → ((s : _) (o : _) (t : _) → steps s o t → split_steps (λ (n : Bor (List ℕ)). FindsText n.now) (λ n m. m.now ≡ n.now) s o t)
    → split_has_more s ≡ true → Contains (cut (chars bs) (chars nd) (no_limit (chars bs))) (chars x.now)
text_piece_among {steps} bs nd xs x s t u text is v w some runs next f more =
    yields_among steps str_text x t u next xs s _ runs (gives-split (split_pattern s) bs nd f v w some is text more refl).runs

-- the same as a computed test. At a text it may be a literal of ASCII
found_among : (t : List ℕ) (ts : List (List ℕ)) → Contains ts t → list_any (bytes_eq t) ts ≡ true
found_among t ts (k, within, is) = list_any_at (bytes_eq t) ts k t within ((bytes_eq-Decides t (get_or ts k t)).1 (sym is))

pub piece_found : {steps : Split ℕ → Option (Bor (List ℕ)) → Split ℕ → Type 0} (xs : List (Bor (List ℕ))) (s t : Split ℕ)
    → Yields steps s xs t
    → ((s : _) (o : _) (t : _) → steps s o t → split_steps FindsChar (λ a b. b ≡ a) s o t) → split_has_more s ≡ true
    → (Yields steps s xs t ≡ Yields steps s xs t)
    × ((x : Bor (List ℕ)) (u : Split ℕ) (bs : List ℕ) (c : ℕ) → steps t (Some x) u → split_text s ≡ bs → split_pattern s ≡ c
    → IsUtf8 bs → list_any (bytes_eq (chars x.now)) (cut (chars bs) (c ∷ []) (no_limit (chars bs))) ≡ true)
piece_found xs s t runs f more =
    (refl, λ x u bs c next text is v. found_among _ _ (piece_among bs c xs x s t u text is v runs next f more))

pub text_piece_found : {steps : Split (Bor (List ℕ)) → Option (Bor (List ℕ)) → Split (Bor (List ℕ)) → Type 0}
    (xs : List (Bor (List ℕ))) (s t : Split (Bor (List ℕ))) → Yields steps s xs t
    → ((s : _) (o : _) (t : _) → steps s o t → split_steps (λ (n : Bor (List ℕ)). FindsText n.now) (λ n m. m.now ≡ n.now) s o t)
    → split_has_more s ≡ true → (Yields steps s xs t ≡ Yields steps s xs t)
    × ((x : Bor (List ℕ)) (u : Split (Bor (List ℕ))) (bs nd : List ℕ) → steps t (Some x) u → split_text s ≡ bs
    → (split_pattern s).now ≡ nd → IsUtf8 bs → IsUtf8 nd → 0 < length nd
    → list_any (bytes_eq (chars x.now)) (cut (chars bs) (chars nd) (no_limit (chars bs))) ≡ true)
    × ((x : Bor (List ℕ)) (u : Split (Bor (List ℕ))) (bs nd : List ℕ) → steps t (Some x) u → split_text s ≡ bs
    → (split_pattern s).now ≡ nd → IsUtf8 bs → IsLiteral nd → 0 < length nd
    → list_any (bytes_eq (chars x.now)) (cut (chars bs) (chars nd) (no_limit (chars bs))) ≡ true)
text_piece_found {steps} xs s t runs f more =
    let found = λ (x : Bor (List ℕ)) (u : Split (Bor (List ℕ))) (bs nd : List ℕ) (next : steps t (Some x) u) (text : split_text s ≡ bs)
    (is : (split_pattern s).now ≡ nd) (v : IsUtf8 bs) (w : IsUtf8 nd) (some : 0 < length nd).
    found_among _ _ (text_piece_among bs nd xs x s t u text is v w some runs next f more) in
    (refl, found, λ x u bs nd next text is v low some. found x u bs nd next text is v (literal-utf8 nd low) some)

pub ruleset among_pieces = (piece_found, text_piece_found)
