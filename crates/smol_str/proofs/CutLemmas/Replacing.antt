-- For `str_ext::replace`: replacing match by match.
use Rattle.smol_str.proofs.Common.{◌≡◌, None, Some, refl, sym, ap, ◌∙◌, Option, MatchOption, Bool, true, not, Result, IfOk, IfOk-weaker, rules, ℕ, ◌+◌, ◌-◌, ◌<◌, ◌≤◌, arith, nat_tests, List, [], ◌∷◌, ◌++◌, length, take, drop, append_assoc, append-nil, length-append, slice_get, common_steps}
use Rattle.smol_str.proofs.Common.{IsUtf8, IsCharBoundary, chars, encode_utf8_all, len_utf8, encode, length-encode, length-le-encodes}
use Rattle.smol_str.proofs.Common.{size, IsShort, IsNextMatch, IsOnlyCut, joined_by, cut, Meaning, IsValueOf, replaced, replaced_all, IsReplacing, BuilderState, InBuffer, OnHeap, empty_builder, appended}
use Rattle.smol_str.proofs.TextLemmas.Results.{OnErr-always}
use Rattle.smol_str.proofs.TextLemmas.Sizes.{size-append, size-chars, IsShort-front}
use Rattle.smol_str.proofs.TextLemmas.Chars.{chars-empty}
use Rattle.std.specs.Option.{is_some}
use Rattle.std.proofs.lemmas.Bool.{true≢false}
use Rattle.memchr.specs.Find.{FindsNeedle}
use Rattle.smol_str.proofs.BuilderLemmas.State.{appended-twice}
use Rattle.smol_str.proofs.BuilderLemmas.Push.{new-heap, appended-heap}
use Rattle.smol_str.proofs.CutLemmas.Match.{IsNextMatch-found, Occurs-none, not_found}
use Rattle.smol_str.proofs.CutLemmas.Replace.{replaced-none, replaced-matched, replaced-unmatched, replaced-between, replaced-end, replaced-enough, match_count-limit}
use Rattle.smol_str.proofs.CutLemmas.Cut.{IsCut-cut, IsCut-unique}
use Rattle.smol_str.proofs.TextLemmas.Split.{boundary-parts, chars-drop, chars-middle}

first_char : (b : List ℕ) (r : Option ℕ) → r ≡ slice_get b 0 → MatchOption r (b ≡ []) (λ c. (s : List ℕ) × (b ≡ c ∷ s))
first_char [] r e = rw e refl
first_char (c ∷ s) r e = rw e (s, refl)

pub replacing-start : (t p w : List ℕ) (n m : ℕ) (b : BuilderState) → b ≡ empty_builder InBuffer → m ≡ n → IsReplacing t p w n m b 0
replacing-start t p w n m b empty is = rw (empty, is) (record { done = []; rest = t; parts = refl; at = refl; grown = refl; text = refl })

-- in the text bs, with its first i bytes done
module _ (bs p w : List ℕ) (n m : ℕ) (b : BuilderState) (i : ℕ) (h : IsReplacing (chars bs) p w n m b i) (u : IsUtf8 bs) where
  pub replacing-boundary : IsCharBoundary bs i
  replacing-boundary = boundary-parts bs h.done h.rest i u h.parts h.at

  pub replacing-inside : i ≤ length bs
  replacing-inside = replacing-boundary.0

  -- the next character of the rest, or none
  pub next-char : (rest : List ℕ) (r : Option ℕ) → rest ≡ drop i bs → r ≡ slice_get (chars rest) 0
      → MatchOption r (h.rest ≡ []) (λ c. (s : List ℕ) × (h.rest ≡ c ∷ s))
  next-char rest r e is = grind (arith, common_steps, first_char, chars-drop)

  pub taken-inside : (c : ℕ) (r : List ℕ) → h.rest ≡ c ∷ r → i + len_utf8 c ≤ length bs
  taken-inside c r reads =
      let one = length-append (encode c) (encode_utf8_all r) in
      omega (arith, ap size h.parts, size-append h.done h.rest, size-chars bs u, ap size reads, one, length-encode c)

-- a text in which the search finds none stays as it is
pub replaced-absent : (bs nd w : List ℕ) (n : ℕ) → IsUtf8 bs → IsUtf8 nd → (r : Option ℕ) (b : Bool) → is_some r ≡ not b → b ≡ true
    → (r ≡ None → FindsNeedle bs nd 0 None) → replaced (chars bs) (chars nd) w n ≡ chars bs
replaced-absent bs nd w n u v None b e f none = replaced-unmatched (chars bs) (chars nd) w n (not_found bs nd u v (none refl))
replaced-absent bs nd w n u v (Some k) b e f none = absurd (true≢false (e ∙ ap not f))

-- and one that is shorter than the pattern
pub replaced-longer : (bs nd w : List ℕ) (n : ℕ) → IsUtf8 bs → IsUtf8 nd → length bs < length nd
    → replaced (chars bs) (chars nd) w n ≡ chars bs
replaced-longer bs nd w n u v longer =
    replaced-unmatched (chars bs) (chars nd) w n
    (λ o. omega (arith, longer, size-chars bs u, size-chars nd v, ap size o.2, size-append o.0 (chars nd ++ o.1), size-append (chars nd) o.1))

-- the next match, found in the bytes of the rest
pub replacing-found : (bs nd w : List ℕ) (n m : ℕ) (b : BuilderState) (i k : ℕ) (rest needle : List ℕ)
    (h : IsReplacing (chars bs) (chars nd) w n m b i) → IsUtf8 bs → IsUtf8 nd → 0 < length nd → rest ≡ drop i bs
    → needle ≡ nd → FindsNeedle rest needle 0 (Some k) → IsNextMatch h.done h.rest (chars nd) (i + k)
replacing-found bs nd w n m b i k rest needle h u v some e f found = search (rules, IsNextMatch-found)

-- or there is none
pub replacing-none : (bs nd w : List ℕ) (n m : ℕ) (b : BuilderState) (i : ℕ) (rest needle : List ℕ)
    (h : IsReplacing (chars bs) (chars nd) w n m b i) → IsUtf8 bs → IsUtf8 nd → rest ≡ drop i bs
    → needle ≡ nd → FindsNeedle rest needle 0 None → IsReplacing (chars bs) (chars nd) w n 0 b i
replacing-none bs nd w n m b i rest needle h u v e f found =
    let none = Occurs-none bs nd i u v (rw (e, f) at found) h.done h.rest h.parts h.at in
    search (rules, arith, replaced-none, replaced-unmatched)

-- two texts appended, one after the other
pub appended-both : (b c d : BuilderState) (u v : List ℕ) → c ≡ appended b u → d ≡ appended c v → d ≡ appended b (u ++ v)
appended-both b c d u v first second = cc (appended-twice b u v)

pub second-heap : (b c : BuilderState) (u v : List ℕ) → c ≡ appended b u → (appended c v).kind ≡ OnHeap
    → (appended b (u ++ v)).kind ≡ OnHeap
second-heap b c u v first heap = cc (appended-twice b u v)

pub size-one : (c : ℕ) → size (c ∷ []) ≡ len_utf8 c
size-one c = omega (arith, length-append (encode c) [], length-encode c)

-- q of the rest is passed, and x is appended for it
module _ (t p w : List ℕ) (n m l : ℕ) (b : BuilderState) (i : ℕ) (h : IsReplacing t p w n m b i) (q r x : List ℕ)
    (reads : h.rest ≡ q ++ r) (made : replaced h.rest p w m ≡ x ++ replaced r p w l) where
  more-text : (b.text ++ x) ++ replaced r p w l ≡ replaced t p w n
  more-text = append_assoc b.text x (replaced r p w l) ∙ ap (λ y. b.text ++ y) (sym made) ∙ h.text

  more-appended : (d : BuilderState) → d ≡ appended b x → d ≡ appended (empty_builder InBuffer) (b.text ++ x)
  more-appended d e = cc (h.grown, appended-twice (empty_builder InBuffer) b.text x)

  replacing-more : (d : BuilderState) → d ≡ appended b x → (j : ℕ) → j ≡ i + size q → IsReplacing t p w n l d j
  replacing-more d e j at = record {
    done = h.done ++ q;
    rest = r;
    parts = cc (h.parts, append_assoc h.done q r);
    at = omega (arith, size-append h.done q);
    grown = cc (more-appended d e);
    text = cc (more-text, more-appended d e);
  }

  replacing-refused : (appended b x).kind ≡ OnHeap → ¬ (IsShort (replaced t p w n))
  replacing-refused e = grind (arith, common_steps, new-heap, IsShort-front, more-text)

-- in the text bs, the next match of the pattern nd is at j
module _ (bs nd w : List ℕ) (n m : ℕ) (b : BuilderState) (i j : ℕ) (h : IsReplacing (chars bs) (chars nd) w n m b i)
    (k : IsNextMatch h.done h.rest (chars nd) j) where
  match-parts : chars bs ≡ (h.done ++ k.before) ++ (chars nd ++ k.after)
  match-parts = h.parts ∙ ap (λ x. h.done ++ x) k.reads ∙ sym (append_assoc h.done k.before (chars nd ++ k.after))

  pub match-boundary : IsUtf8 bs → IsCharBoundary bs j
  match-boundary u = boundary-parts bs (h.done ++ k.before) (chars nd ++ k.after) j u match-parts k.index

  pub match-end : IsUtf8 bs → IsUtf8 nd → j + length nd ≤ length bs
  match-end u v =
      omega (arith, size-chars bs u, size-chars nd v, ap size match-parts, size-append (h.done ++ k.before) (chars nd ++ k.after), size-append (chars nd) k.after)

  pub match-piece : IsUtf8 bs → chars (take (j - i) (drop i bs)) ≡ k.before
  match-piece u = search (rules, chars-middle)

  module _ (l : ℕ) (next : m ≡ l + 1) where
    match-passed : h.rest ≡ (k.before ++ chars nd) ++ k.after
    match-passed = k.reads ∙ sym (append_assoc k.before (chars nd) k.after)

    match-made : replaced h.rest (chars nd) w m ≡ (k.before ++ w) ++ replaced k.after (chars nd) w l
    match-made = grind (arith, common_steps, replaced-matched, append_assoc)

    pub match-step : IsUtf8 nd → (d : BuilderState) → d ≡ appended b (k.before ++ w)
        → IsReplacing (chars bs) (chars nd) w n l d (j + length nd)
    match-step v d e =
        replacing-more (chars bs) (chars nd) w n m l b i h (k.before ++ chars nd) k.after (k.before ++ w) match-passed
        match-made d e (j + length nd)
        (omega (arith, k.index, size-append k.before (chars nd), size-append h.done k.before, size-chars nd v))

    pub match-refused : (appended b (k.before ++ w)).kind ≡ OnHeap → ¬ (IsShort (replaced (chars bs) (chars nd) w n))
    match-refused =
        replacing-refused (chars bs) (chars nd) w n m l b i h (k.before ++ chars nd) k.after (k.before ++ w)
        match-passed match-made

-- in the text t, at the empty pattern, the next character is c
module _ (t w : List ℕ) (n m l : ℕ) (b : BuilderState) (i : ℕ) (h : IsReplacing t [] w n m b i) (next : m ≡ l + 1) where
  module _ (c : ℕ) (r : List ℕ) (reads : h.rest ≡ c ∷ r) where
    taken-made : replaced h.rest [] w m ≡ (w ++ (c ∷ [])) ++ replaced r [] w l
    taken-made = grind (arith, common_steps, replaced-between, append_assoc)

    pub taken-step : (d : BuilderState) → d ≡ appended b (w ++ (c ∷ [])) → IsReplacing t [] w n l d (i + len_utf8 c)
    taken-step d e =
        replacing-more t [] w n m l b i h (c ∷ []) r (w ++ (c ∷ [])) reads taken-made d e (i + len_utf8 c)
        (omega (arith, size-one c))

    pub taken-refused : (appended b (w ++ (c ∷ []))).kind ≡ OnHeap → ¬ (IsShort (replaced t [] w n))
    taken-refused = replacing-refused t [] w n m l b i h (c ∷ []) r (w ++ (c ∷ [])) reads taken-made

  -- or there is none
  module _ (reads : h.rest ≡ []) where
    end-made : replaced h.rest [] w m ≡ w ++ replaced [] [] w 0
    end-made = grind (arith, common_steps, replaced-end, replaced-none, append-nil)

    pub taken-end : (d : BuilderState) → d ≡ appended b w → IsReplacing t [] w n 0 d i
    taken-end d e = replacing-more t [] w n m 0 b i h [] [] w reads end-made d e i (omega arith)

  -- either way w comes next
  pub before-refused : (rest : List ℕ) → h.rest ≡ rest → (appended b w).kind ≡ OnHeap → ¬ (IsShort (replaced t [] w n))
  before-refused [] e heap = replacing-refused t [] w n m 0 b i h [] [] w e (end-made e) heap
  before-refused (c ∷ r) e heap = taken-refused c r e (appended-heap b w (c ∷ []) heap)

-- the rest appended
module _ (bs p w : List ℕ) (n : ℕ) (b : BuilderState) (i : ℕ) (h : IsReplacing (chars bs) p w n 0 b i) (u : IsUtf8 bs) where
  pub rest-whole : (d : BuilderState) → d ≡ appended b (chars (drop i bs)) → d ≡ appended (empty_builder InBuffer) (replaced (chars bs) p w n)
  rest-whole d e =
      let reads = chars-drop bs h.done h.rest i u h.parts h.at in
      cc (reads, h.text, h.grown, replaced-none h.rest p w, appended-twice (empty_builder InBuffer) b.text h.rest)

  pub rest-refused : (appended b (chars (drop i bs))).kind ≡ OnHeap → ¬ (IsShort (replaced (chars bs) p w n))
  rest-refused heap = search (rules, new-heap, rest-whole)

-- a limit above the text's length leaves no match out
pub replaced-unlimited : (bs p w : List ℕ) → IsUtf8 bs → (n : ℕ) → length bs < n
    → replaced (chars bs) p w n ≡ replaced_all (chars bs) p w
replaced-unlimited bs p w u n l = grind (arith, common_steps, replaced-enough, match_count-limit, length-le-encodes, size-chars)

-- the text of a replacement, by the only cut that there is
pub only_cut : {E : Type 0} (r : Result Meaning E) (t p w : List ℕ) (n : ℕ) → IfOk r (λ v. IsValueOf (replaced t p w n) v)
    → (pieces : List (List ℕ)) × IsOnlyCut t p n pieces × IfOk r (λ v. v.text ≡ joined_by w pieces)
only_cut r t p w n is =
    let own = IsCut-cut t p n in
    (cut t p n, (own, λ others h. IsCut-unique t p n others (cut t p n) h own), IfOk-weaker r _ _ (λ v g. g.text) is)

pub ruleset replacements = (replaced-unlimited, only_cut)

pub ruleset first_steps = (chars-empty, nat_tests)

pub ruleset last_steps = (OnErr-always, replacing-boundary, rest-whole, rest-refused, replaced-absent)
