-- What `split` of a text at a character or at another text gives: the pieces of the cut.
use Rattle.smol_str.proofs.Common.{◌≡◌, Bool, true, cond, Bor, Option, Some, None, MatchOption, refl, sym, ap, ◌∙◌, subst, false, ℕ, ◌+◌, ◌<◌, ◌≤◌, ◌==◌, arith, nat_tests, List, [], ◌∷◌, ◌++◌, length, take, drop, length-append, length-take, append-nil, take-append-drop, flat_map, YieldsList, length-drop, IsUtf8, chars, encode_utf8, encode_utf8_all, length-le-encodes, chars-encodes}
use Rattle.smol_str.proofs.Common.{chars_from_encodes, encodes-append, encodes-chars, scalars-chars, size, Occurs, IsFirstAfter, joined_by, cut, no_limit, match_count}
use Rattle.smol_str.proofs.CallerLemmas.Common.{NonePass, FindsText, FindsChar, split_steps, split_text, split_has_more, split_pattern, Split, YieldsList-from_shown_while}
use Rattle.smol_str.proofs.CallerLemmas.Iterators.{weaker}
use Rattle.smol_str.proofs.CutLemmas.Cut.{IsCut-cut, IsCut-unique, IsCutAt-step, IsCutAt-unmatched, joined_one, joined_more}
use Rattle.smol_str.proofs.CutLemmas.Replace.{whole_cut, match_count-limit}
use Rattle.smol_str.proofs.CutLemmas.Match.{earlier}
use Rattle.smol_str.proofs.TextLemmas.Sizes.{size-chars, some_char}
use Rattle.smol_str.proofs.TextLemmas.Split.{drop-parts, scalars_parts}
use Rattle.smol_str.proofs.CutLemmas.Sync.{StandsBetween-bytes}

-- ---- the first match

-- where a search for p ends in the text w: at the first match, or nowhere
abbrev pub Finds : List ℕ → List ℕ → Option (ℕ × ℕ) → Type 0
Finds p w o = MatchOption o (¬ Occurs p (chars w))
    (λ q. (0 < q.1) × IsUtf8 (take q.0 w) × IsUtf8 (drop q.1 w) × (chars w ≡ chars (take q.0 w) ++ (p ++ chars (drop q.1 w)))
    × IsFirstAfter p (chars (take q.0 w)))

lacks_char : (c : ℕ) (t : List ℕ) → NonePass (λ d. d == c) t → ¬ Occurs (c ∷ []) t
lacks_char c [] none (a, r, e) = omega (arith, ap length e, length-append a (c ∷ r))
lacks_char c (d ∷ t) (other, none) ([], r, e) = grind (arith, nat_tests)
lacks_char c (d ∷ t) (other, none) (x ∷ a, r, e) = lacks_char c t none (a, r, ap (drop 1) e)

module _ (w : List ℕ) (u : IsUtf8 w) where
  -- a pattern that occurs between bytes, as characters
  pub found_parts : (p : List ℕ) (i j : ℕ) → 0 < length p → drop i w ≡ encode_utf8_all p ++ drop j w
      → (0 < j) × IsUtf8 (take i w) × IsUtf8 (drop j w) × (chars w ≡ chars (take i w) ++ (p ++ chars (drop j w)))
  found_parts p i j some e =
      let h = StandsBetween-bytes (chars w) p (take i w) (drop j w) some (cc (encodes-chars w u, take-append-drop i w, e)) in
      let s = scalars_parts h.0 (p ++ h.1) (cc (h.2, scalars-chars w u)) in
      let z = scalars_parts p h.1 s.1 in
      let on : 0 < j = omega (arith, ap length e, length-append {A = ℕ}, length-drop {A = ℕ}, length-le-encodes p) in
      (on, (h.0, (s.0, h.3)), (h.1, (z.1, h.4)), cc (h.2, h.3, h.4, chars-encodes h.0 s.0, chars-encodes h.1 z.1))

  pub found_char : (c : ℕ) (o : Option (ℕ × ℕ)) → FindsChar c w o → Finds (c ∷ []) w o
  found_char c None (cs, e, none) = rw (chars_from_encodes cs w u e) at (lacks_char c cs none)
  found_char c (Some q) ((cs, e, none), at) =
      let h = found_parts (c ∷ []) q.0 q.1 (omega arith) (cc (at.split, append-nil (encode_utf8 c))) in
      (h.0, h.1, h.2, h.3, rw (chars_from_encodes cs _ h.1 e, ← append-nil (chars (take q.0 w))) at (lacks_char c cs none))

  -- where characters occur, their bytes do
  pub bytes_there : (nd a r : List ℕ) → IsUtf8 nd → chars w ≡ a ++ (chars nd ++ r) → drop (size a) w ≡ nd ++ encode_utf8_all r
  bytes_there nd a r v e = cc (drop-parts w a (chars nd ++ r) (size a) u e refl, encodes-append (chars nd) r, encodes-chars nd v)

  pub found_text : (nd : List ℕ) (o : Option (ℕ × ℕ)) → IsUtf8 nd → 0 < length nd → FindsText nd w o → Finds (chars nd) w o
  found_text nd None v some none = λ (a, r, e).
      let at = bytes_there nd a r v e in
      none (size a) (omega (arith, ap length at, length-append {A = ℕ}, length-drop {A = ℕ})) (encode_utf8_all r) at
  found_text nd (Some q) v some (none, at) =
      let long = some_char nd v some in
      let h = found_parts (chars nd) q.0 q.1 long (cc (at.split, encodes-chars nd v)) in
      let place : size (chars (take q.0 w)) ≡ length (take q.0 w) = size-chars (take q.0 w) h.1 in (
        h.0,
        h.1,
        h.2,
        h.3,
        λ o.
            let x = earlier (chars w) (chars nd) (chars (take q.0 w)) (chars (drop q.1 w)) h.3 long o in
            none (size x.0.0) (omega (arith, x.1, length-take {A = ℕ})) (encode_utf8_all x.0.1) (bytes_there nd x.0.0 x.0.1 v x.0.2),
      )

-- ---- the pieces

-- the whole cut, by its first match
cut_first : (t p q r : List ℕ) → 0 < length p → t ≡ q ++ (p ++ r) → IsFirstAfter p q →
    cut t p (no_limit t) ≡ q ∷ cut r p (no_limit r)
cut_first t [] q r some e first = absurd (omega arith)
cut_first t (c ∷ p) q r some e first =
    let few : match_count r (c ∷ p) ≤ length t =
    omega (arith, match_count-limit r (c ∷ p), ap length e, length-append q ((c ∷ p) ++ r), length-append (c ∷ p) r) in
    IsCut-unique t (c ∷ p) (length t + 1) _ _ (IsCut-cut t (c ∷ p) (length t + 1))
    (IsCutAt-step t (c ∷ p) q r (length t) _ e first (whole_cut r (c ∷ p) (length t) few))

cut_none : (t p : List ℕ) → 0 < length p → ¬ Occurs p t → cut t p (no_limit t) ≡ t ∷ []
cut_none t [] some none = absurd (omega arith)
cut_none t (c ∷ p) some none =
    IsCut-unique t (c ∷ p) (length t + 1) _ _ (IsCut-cut t (c ∷ p) (length t + 1)) (IsCutAt-unmatched t (c ∷ p) (length t + 1) none)

-- pieces with nothing between them
pub joined-nothing : (pieces : List (List ℕ)) → flat_map (λ q. q) pieces ≡ joined_by [] pieces
joined-nothing [] = refl
joined-nothing (q ∷ []) = cc (append-nil q, joined_one [] q)
joined-nothing (q ∷ r ∷ rs) = cc (joined-nothing (r ∷ rs), joined_more [] q r rs)

-- what is left to come: the pieces of the text that is left, or none
abbrev pub pieces : List ℕ → Bool → List ℕ → List (List ℕ)
pieces p more w = cond more (cut (chars w) p (no_limit (chars w))) []

module _ (p : List ℕ) (some : 0 < length p) where
  -- a piece comes off
  pub one_piece : (w x rest : List ℕ) (live : Bool) (o : Option (ℕ × ℕ)) → Finds p w o
      → MatchOption o ((x ≡ w) × (live ≡ false)) (λ q. 0 < q.1 → (x ≡ take q.0 w) × (live ≡ true) × (rest ≡ drop q.1 w))
      → (live ≡ true → IsUtf8 rest) × (pieces p true w ≡ chars x ∷ pieces p live rest)
  one_piece w x rest live None none (e, f) = ((λ more. cc), rw (e, f) (cut_none (chars w) p some none))
  one_piece w x rest live (Some q) (on, front, behind, whole, first) said =
      let m = said on in
      ((λ more. rw m.2 behind), rw (m.0, m.1, m.2) (cut_first (chars w) p (chars (take q.0 w)) (chars (drop q.1 w)) some whole first))

  -- a pattern n for which Is n holds is p
  module _ {P : Type 0} (F : P → List ℕ → Option (ℕ × ℕ) → Type 0) (same : P → P → Type 0) (Is : P → Type 0)
      (kept : (n m : P) → same n m → Is n → Is m)
      (finds : (n : P) (w : List ℕ) (o : Option (ℕ × ℕ)) → Is n → IsUtf8 w → F n w o → Finds p w o) where
    gives-pieces : (s : Split P) (bs : List ℕ) → IsUtf8 bs → Is (split_pattern s) → split_text s ≡ bs → split_has_more s ≡ true
        → YieldsList (split_steps F same) (λ x. chars x.now) s (cut (chars bs) p (no_limit (chars bs)))
    gives-pieces s bs u is text more =
        let all = YieldsList-from_shown_while (split_steps F same) (λ x. chars x.now)
        (λ t. pieces p (split_has_more t) (split_text t))
        (λ t. Is (split_pattern t) × (split_has_more t ≡ true → IsUtf8 (split_text t)))
        (λ t z h k. ap (λ b. length (pieces p b (split_text t))) (sym k.0))
        (λ t x z h k.
        let o = k.1.1.1 in
        let one = one_piece (split_text t) x.now (split_text z) (split_has_more z) o.0
        (finds (split_pattern t) (split_text t) o.0 h.0 (h.1 (sym k.0)) o.1) o.2 in
        ((kept (split_pattern t) (split_pattern z) k.1.0 h.0, one.0), ap (λ b. pieces p b (split_text t)) (sym k.0) ∙ one.1))
        s (is, λ _. subst IsUtf8 (sym text) u) in
        subst (YieldsList (split_steps F same) (λ x. chars x.now) s) (λ i. pieces p (more i) (text i)) all

-- a text that is split at another, and at a character
pub gives-split : {s : _} {steps : Split (Bor (List ℕ)) → Option (Bor (List ℕ)) → Split (Bor (List ℕ)) → Type 0}
    (by : Bor (List ℕ)) (bs nd : List ℕ) → ((s : _) (o : _) (t : _) → steps s o t → split_steps (λ n. FindsText n.now) (λ n m. m.now ≡ n.now) s o t)
    → IsUtf8 bs → IsUtf8 nd → 0 < length nd → by.now ≡ nd → split_text s ≡ bs → split_has_more s ≡ true
    → split_pattern s ≡ by → YieldsList steps (λ x. chars x.now) s (cut (chars bs) (chars nd) (no_limit (chars bs)))
gives-split {s} by bs nd f u v some is text more pattern =
    weaker f (gives-pieces (chars nd) (some_char nd v some) (λ n. FindsText n.now) (λ n m. m.now ≡ n.now) (λ n. n.now ≡ nd)
    (λ n m same is. same ∙ is) (λ n w o is u finds. found_text w u nd o v some (subst (λ b. FindsText b w o) is finds))
    s bs u (ap (λ n. n.now) pattern ∙ is) text more)

pub gives-split_at : {s : _} {steps : Split ℕ → Option (Bor (List ℕ)) → Split ℕ → Type 0} (c : ℕ) (bs : List ℕ)
    → ((s : _) (o : _) (t : _) → steps s o t → split_steps FindsChar (λ a b. b ≡ a) s o t)
    → IsUtf8 bs → split_text s ≡ bs → split_has_more s ≡ true → split_pattern s ≡ c
    → YieldsList steps (λ x. chars x.now) s (cut (chars bs) (c ∷ []) (no_limit (chars bs)))
gives-split_at {s} c bs f u text more pattern =
    weaker f (gives-pieces (c ∷ []) (omega arith) FindsChar (λ a b. b ≡ a) (λ d. d ≡ c)
    (λ d e same is. same ∙ is) (λ d w o is u finds. found_char w u c o (subst (λ e. FindsChar e w o) is finds))
    s bs u pattern text more)
