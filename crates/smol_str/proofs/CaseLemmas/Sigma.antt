-- For `str_ext::sigma`: lower case round a capital sigma.
use Rattle.smol_str.proofs.Common.{◌≡◌, ℕ, List, [], ◌∷◌, ◌++◌, Bool, true, length, take, refl, sym, ap, ◌∙◌, append_assoc, ne_eqb, chars, encode, IsUtf8, chars-append, take_at, IsCharBoundary-at_seam, IsUtf8-encode, Lower, mapped, lowercased, BuilderState, InBuffer, empty_builder, appended, append-nil, drop, ◌-◌, arith, size, IsCharBoundary, false, IsNextMatch, OnHeap, ◌+◌, ◌≤◌}
use Rattle.std.specs.Char.{IsScalar}
use Rattle.std.specs.Char.Unicode.ToLowercase.{to_lowercase}
use Rattle.std.specs.Char.Unicode.Rows.{in_ranges}
use Rattle.std.specs.Char.Unicode.Cased.{is_cased, cased_ranges}
use Rattle.std.specs.Char.Unicode.CaseIgnorable.{is_case_ignorable, case_ignorable_ranges}
use Rattle.std.specs.StrCase.Lower.{lowercase_chars, lowercase_before, is_in_word_after}
use Rattle.std.proofs.lemmas.Str.{IsUtf8-take}
use Rattle.smol_str.specs.CaseParts.{word_after, IsLowered, IsLowering}
use Rattle.smol_str.proofs.CaseLemmas.Full.{HasSigma, lowercase-alone}
use Rattle.smol_str.proofs.BuilderLemmas.State.{appended-twice}
use Rattle.smol_str.proofs.TextLemmas.Lists.{not_later}
use Rattle.smol_str.proofs.BuilderLemmas.Push.{appended-heap, new-part}
use Rattle.smol_str.proofs.TextLemmas.Sizes.{size-append, size-chars}
use Rattle.smol_str.proofs.TextLemmas.Chars.{chars-one}
use Rattle.smol_str.proofs.TextLemmas.Split.{boundary-parts, chars-drop, chars-take, chars-middle}

-- a character at the end decides, unless case ignores it
pub word_after-last : (w : Bool) (t : List ℕ) (c : ℕ) → word_after w (t ++ c ∷ []) ≡ is_in_word_after (word_after w t) c
word_after-last w [] c = refl
word_after-last w (d ∷ t) c = word_after-last (is_in_word_after w d) t c

-- before a capital sigma each character is mapped by itself
lowercase-before : (w : Bool) (a r : List ℕ) → ¬ HasSigma a
    → lowercase_chars w (a ++ r) ≡ mapped Lower a ++ lowercase_chars (word_after w a) r
lowercase-before w [] r none = refl
lowercase-before w (c ∷ a) r none =
    let rest = lowercase-before (is_in_word_after w c) a r (not_later (0x3A3 ∷ []) c a none) in
    rw (ne_eqb c 0x3A3 (λ e. none ([], a, ap (λ x. x ∷ a) e)))
    (ap (λ s. to_lowercase c ++ s) rest ∙ sym (append_assoc (to_lowercase c) (mapped Lower a) (lowercase_chars (word_after w (c ∷ a)) r)))

-- a word goes on after a capital sigma
sigma-in_word : (w : Bool) → is_in_word_after w 0x3A3 ≡ true
unfolding in_ranges is_cased cased_ranges is_case_ignorable case_ignorable_ranges
sigma-in_word w = refl

-- a text, up to its first capital sigma and with it
pub lowercase-sigma : (w : Bool) (a r t : List ℕ) → t ≡ a ++ 0x3A3 ∷ r → ¬ HasSigma a
    → lowercase_chars w t ≡ (mapped Lower a ++ lowercase_before (word_after w a) 0x3A3 r) ++ lowercase_chars true r
lowercase-sigma w a r t e none =
    let on = word_after w a in
    ap (lowercase_chars w) e ∙ lowercase-before w a (0x3A3 ∷ r) none
    ∙ ap (λ b. mapped Lower a ++ (lowercase_before on 0x3A3 r ++ lowercase_chars b r)) (sigma-in_word on)
    ∙ sym (append_assoc (mapped Lower a) (lowercase_before on 0x3A3 r) (lowercase_chars true r))

-- the last character of a text, and what is before it
module _ (bs rest : List ℕ) (c : ℕ) (u : IsUtf8 bs) (e : bs ≡ rest ++ encode c) (k : IsScalar c) where
  pub IsUtf8-before_last : IsUtf8 rest
  IsUtf8-before_last =
      let cut = IsUtf8-take bs (length rest) u (IsCharBoundary-at_seam bs rest (encode c) e (IsUtf8-encode c k)) in
      rw (e, take_at rest (encode c) (length rest) refl) at cut

  pub chars-before_last : chars bs ≡ chars rest ++ c ∷ []
  chars-before_last =
      ap chars e ∙ chars-append rest (encode c) IsUtf8-before_last
      ∙ ap (λ s. chars rest ++ s) (chars-one c (encode c) (IsUtf8-encode c k) refl)

word_after-append : (w : Bool) (a b : List ℕ) → word_after w (a ++ b) ≡ word_after (word_after w a) b
word_after-append w [] b = refl
word_after-append w (c ∷ a) b = word_after-append (is_in_word_after w c) a b

size-sigma : size (0x3A3 ∷ []) ≡ 2
unfolding lib.Utf8.encode
size-sigma = refl

-- where a capital sigma lies, by what follows it
module _ (text after : List ℕ) (u : IsUtf8 text) (v : IsUtf8 after) (done : List ℕ) (parts : chars text ≡ done ++ 0x3A3 ∷ chars after) where
  sigma-size : length text ≡ size done + (2 + length after)
  sigma-size =
      omega (
        arith,
        size-chars text u,
        size-chars after v,
        ap size parts,
        size-append done (0x3A3 ∷ chars after),
        size-append (0x3A3 ∷ []) (chars after),
        size-sigma,
      )

  pub sigma-behind : length after ≤ length text
  sigma-behind = omega (arith, sigma-size)

  pub sigma-room : 2 ≤ length text - length after
  sigma-room = omega (arith, sigma-size)

  sigma-index : size done ≡ length text - length after - 2
  sigma-index = omega (arith, sigma-size)

  pub sigma-boundary : IsCharBoundary text (length text - length after - 2)
  sigma-boundary = boundary-parts text done (0x3A3 ∷ chars after) (length text - length after - 2) u parts sigma-index

  pub sigma-before : chars (take (length text - length after - 2) text) ≡ done
  sigma-before = chars-take text done (0x3A3 ∷ chars after) (length text - length after - 2) u parts sigma-index

-- a text that is lowered up to a character
module _ (t : List ℕ) (c : ℕ) (r : List ℕ) (b : BuilderState) (h : IsLowered t b (c ∷ r)) where
  abbrev letter_here : List ℕ
  letter_here = lowercase_before (word_after false h.done) c r

  lowered-part : ((appended b letter_here).kind ≡ OnHeap → (appended (empty_builder InBuffer) (lowercased t)).kind ≡ OnHeap)
      × ((e : BuilderState) → e ≡ appended b letter_here → (e ≡ appended (empty_builder InBuffer) e.text)
      × (e.text ++ lowercase_chars (is_in_word_after (word_after false h.done) c) r ≡ lowercased t))
  lowered-part = new-part b letter_here (lowercase_chars (is_in_word_after (word_after false h.done) c) r) (lowercased t) h.grown h.text

  pub lowered-refused : (appended b letter_here).kind ≡ OnHeap → (appended (empty_builder InBuffer) (lowercased t)).kind ≡ OnHeap
  lowered-refused = lowered-part.0

  pub lowered-more : (e : BuilderState) → e ≡ appended b letter_here → IsLowered t e r
  lowered-more e put =
      let more = lowered-part.1 e put in
      record {
        done = h.done ++ c ∷ [];
        parts = h.parts ∙ sym (append_assoc h.done (c ∷ []) r);
        grown = more.0;
        text = rw (word_after-last false h.done c) more.1;
      }

  pub lowered-alone : ¬ (c ≡ 0x3A3) → letter_here ≡ mapped Lower (c ∷ [])
  lowered-alone other = rw (ne_eqb c 0x3A3 other) (sym (append-nil (to_lowercase c)))

-- all of a text is lowered
pub lowered-all : (t : List ℕ) (b : BuilderState) → IsLowered t b [] → b ≡ appended (empty_builder InBuffer) (lowercased t)
lowered-all t b h = cc (h.grown, append-nil b.text, h.text)

-- a text that is lowered up to an index
module _ (text : List ℕ) (u : IsUtf8 text) (b : BuilderState) (from : ℕ) (h : IsLowering (chars text) b from) where
  pub lowering-boundary : IsCharBoundary text from
  lowering-boundary = boundary-parts text h.front.done h.rest from u h.front.parts h.at

  pub lowering-rest : chars (drop from text) ≡ h.rest
  lowering-rest = chars-drop text h.front.done h.rest from u h.front.parts h.at

  -- behind the last capital sigma each character is mapped by itself
  pub lowering-last : ¬ HasSigma h.rest
      → appended b (mapped Lower (chars (drop from text))) ≡ appended (empty_builder InBuffer) (lowercased (chars text))
  lowering-last none =
      let all = sym (ap (λ s. b.text ++ s) (lowercase-alone (word_after false h.front.done) h.rest none)) ∙ h.front.text in
      cc (lowering-rest, h.front.grown, appended-twice (empty_builder InBuffer) b.text (mapped Lower h.rest), all)

  -- before the next capital sigma, too, and its own letter follows from what is on both sides of it
  module _ (sigma : ℕ) (next : IsNextMatch h.front.done h.rest (0x3A3 ∷ []) sigma) where
    abbrev to_sigma : List ℕ
    to_sigma = h.front.done ++ next.before

    abbrev past_sigma : List ℕ
    past_sigma = to_sigma ++ 0x3A3 ∷ []

    whole : chars text ≡ h.front.done ++ (next.before ++ 0x3A3 ∷ next.after)
    whole = h.front.parts ∙ ap (λ r. h.front.done ++ r) next.reads

    whole_to : chars text ≡ to_sigma ++ 0x3A3 ∷ next.after
    whole_to = whole ∙ sym (append_assoc h.front.done next.before (0x3A3 ∷ next.after))

    whole_past : chars text ≡ past_sigma ++ next.after
    whole_past = whole_to ∙ sym (append_assoc to_sigma (0x3A3 ∷ []) next.after)

    at_past : size past_sigma ≡ sigma + 2
    at_past = size-append to_sigma (0x3A3 ∷ []) ∙ ap (λ k. k + size (0x3A3 ∷ [])) next.index ∙ ap (λ k. sigma + k) size-sigma

    pub segment-start : from ≤ sigma
    segment-start = omega (arith, h.at, next.index, size-append h.front.done next.before)

    pub segment-end : sigma + 2 ≤ length text
    segment-end = omega (arith, at_past, size-append past_sigma next.after, ap size whole_past, size-chars text u)

    pub segment-boundaries : IsCharBoundary text sigma × IsCharBoundary text (sigma + 2)
    segment-boundaries =
        (boundary-parts text to_sigma (0x3A3 ∷ next.after) sigma u whole_to next.index, boundary-parts text past_sigma next.after (sigma + 2) u whole_past at_past)

    segment-before : chars (take sigma text) ≡ to_sigma
    segment-before = chars-take text to_sigma (0x3A3 ∷ next.after) sigma u whole_to next.index

    segment-between : chars (take (sigma - from) (drop from text)) ≡ next.before
    segment-between = chars-middle text h.front.done next.before (0x3A3 ∷ next.after) from sigma u whole h.at next.index

    segment-after : chars (drop (sigma + 2) text) ≡ next.after
    segment-after = chars-drop text past_sigma next.after (sigma + 2) u whole_past at_past

    none : ¬ HasSigma next.before
    none here = next.first (rw (append-nil next.before) here)

    abbrev letter : List ℕ
    letter = lowercase_before (word_after false (chars (take sigma text))) 0x3A3 (chars (drop (sigma + 2) text))

    abbrev between : List ℕ
    between = mapped Lower (chars (take (sigma - from) (drop from text)))

    step : b.text ++ ((between ++ letter) ++ lowercase_chars true next.after) ≡ lowercased (chars text)
    step =
        let parts = lowercase-sigma (word_after false h.front.done) next.before next.after h.rest next.reads none in
        rw (segment-between, segment-before, segment-after, word_after-append false h.front.done next.before)
        (ap (λ s. b.text ++ s) (sym parts) ∙ h.front.text)

    -- what is appended is refused only where the whole is
    pub segment-first : (appended b between).kind ≡ OnHeap → (appended (empty_builder InBuffer) (lowercased (chars text))).kind ≡ OnHeap
    segment-first heap = (new-part b (between ++ letter) (lowercase_chars true next.after) (lowercased (chars text)) h.front.grown step).0 (appended-heap b between letter heap)

    module _ (d : BuilderState) (put : d ≡ appended b between) where
      both : appended d letter ≡ appended b (between ++ letter)
      both = cc (put, appended-twice b between letter)

      pub segment-refused : (appended d letter).kind ≡ OnHeap → (appended (empty_builder InBuffer) (lowercased (chars text))).kind ≡ OnHeap
      segment-refused heap = (new-part b (between ++ letter) (lowercase_chars true next.after) (lowercased (chars text)) h.front.grown step).0 (cc (both, heap))

      pub segment-more : (e : BuilderState) → e ≡ appended d letter → IsLowering (chars text) e (sigma + 2)
      segment-more e is =
          let more = (new-part b (between ++ letter) (lowercase_chars true next.after) (lowercased (chars text)) h.front.grown step).1 e (is ∙ both) in
          let on : word_after false past_sigma ≡ true = word_after-last false to_sigma 0x3A3 ∙ sigma-in_word (word_after false to_sigma) in
          record {
            rest = next.after;
            front = record { done = past_sigma; parts = whole_past; grown = more.0; text = rw on more.1 };
            at = at_past;
          }
