-- For `str_ext::ascii_case` and `str_ext::full_case`: the ASCII front of a text and the rest of it, in a case.
use Rattle.smol_str.proofs.Common.{◌≡◌, ℕ, List, [], ◌++◌, length, take, drop, sym, ap, ◌∙◌, arith, append_assoc, length-append, take-append-drop, take_at, padded, common_steps, rules, suc, ◌<◌, ◌∷◌, Bool, false, Option, None, flat_map, refl, append-nil, ne_eqb, lowercased, length-map, nat_tests, map-append, get_or, IsTrue, ◌≤◌}
use Rattle.smol_str.proofs.Common.{IsUtf8, IsAscii, IsCharBoundary, IsCharBoundary-from_take, chars, chars-append, encode_utf8_all, IsUtf8-from_ascii, chars-IsAscii, encodes-IsAscii, IsAscii-from_all, to_ascii_lowercase, chars-encodes, lowercase_is, uppercase_is, all_scalars}
use Rattle.smol_str.proofs.Common.{AsciiCase, Lower, Upper, size, IsShort, front, converted, BuilderState, InBuffer, OnHeap, empty_builder, appended, INLINE_CAP, Occurs, lower, upper, uppercased, IsAsciiText, letter, letters, full_case, mapped, IsAsciiFront}
use Rattle.smol_str.proofs.TextLemmas.Lists.{not_later}
use Rattle.smol_str.proofs.CaseLemmas.Letters.{lowercase_moves, uppercase_moves}
use Rattle.smol_str.proofs.CaseLemmas.Ascii.{front-parts, front-length, size-converted, IsAscii-converted, IsAscii-chars}
use Rattle.smol_str.proofs.BuilderLemmas.Push.{appended-heap, new-appended}
use Rattle.smol_str.specs.CaseParts.{IsPartOf, IsLowering, word_after}
use Rattle.std.specs.Char.Unicode.ToLowercase.{to_lowercase}
use Rattle.std.specs.StrCase.Lower.{lowercase_chars, is_in_word_after}
use Rattle.std.proofs.lemmas.Grind.{flat_map-append}
use Rattle.std.proofs.lemmas.List.{take_all, length-take-le}
use Rattle.smol_str.proofs.TextLemmas.Results.{OnErr-always}
use Rattle.smol_str.proofs.TextLemmas.Sizes.{size-chars, some_char}
use Rattle.smol_str.proofs.BuilderLemmas.State.{OnHeap-long, appended-twice, kind_with-long}

pub IsAscii-front : (t : List ℕ) → IsAscii (front t)
IsAscii-front t = IsAscii-from_all (front t) (front-parts t).2

-- std maps an ASCII character as its case of ASCII does
letters_ascii : (case : AsciiCase) (c : ℕ) → c < 128 → letters case c ≡ letter case c ∷ []
letters_ascii Lower c low = search (rules, lowercase_moves, nat_tests, lowercase_is)
letters_ascii Upper c low = search (rules, uppercase_moves, nat_tests, uppercase_is)

-- std's mappings of a whole text begin with its ASCII front in the case
lowercase_front : (w : Bool) (a r : List ℕ) → IsAscii a
    → lowercase_chars w (a ++ r) ≡ lower a ++ lowercase_chars (word_after w a) r
lowercase_front w [] r h = refl
lowercase_front w (c ∷ a) r h =
    let k = lowercase_front (is_in_word_after w c) a r (λ i. h (suc i)) in
    rw (ne_eqb c 0x3A3 (omega (arith, h 0)), letters_ascii Lower c (h 0)) (cc k)

uppercase_front : (a r : List ℕ) → IsAscii a → uppercased (a ++ r) ≡ upper a ++ uppercased r
uppercase_front [] r h = refl
uppercase_front (c ∷ a) r h = λ i. letters_ascii Upper c (h 0) i ++ uppercase_front a r (λ k. h (suc k)) i

-- the one character that lower case maps by its context
abbrev pub HasSigma : List ℕ → Type 0
HasSigma t = Occurs (0x3A3 ∷ []) t

-- without a capital sigma, lower case maps each character by itself
pub lowercase-alone : (w : Bool) (t : List ℕ) → ¬ HasSigma t → lowercase_chars w t ≡ flat_map to_lowercase t
lowercase-alone w [] none = refl
lowercase-alone w (c ∷ t) none =
    let rest = lowercase-alone (is_in_word_after w c) t (not_later (0x3A3 ∷ []) c t none) in
    rw (ne_eqb c 0x3A3 (λ e. none ([], t, ap (λ x. x ∷ t) e))) (ap (λ s. to_lowercase c ++ s) rest)

-- what follows an ASCII front is mapped behind the front in its case
front_first : (case : AsciiCase) (a r : List ℕ) → IsAscii a → (s : List ℕ) × (full_case case (a ++ r) ≡ converted case a ++ s)
front_first Lower a r h = (lowercase_chars (word_after false a) r, lowercase_front false a r h)
front_first Upper a r h = (uppercased r, uppercase_front a r h)

pub full-front : (case : AsciiCase) (t : List ℕ) → (r : List ℕ) × (full_case case t ≡ converted case (front t) ++ r)
full-front case t =
    let p = front-parts t in
    let k = front_first case (front t) p.0 (IsAscii-front t) in (k.0, ap (full_case case) p.1 ∙ k.1)

-- of ASCII text std's mapping is that of ASCII
pub full-ascii : (case : AsciiCase) (t : List ℕ) → IsAsciiText t → full_case case t ≡ converted case t
full-ascii Lower t h = cc (lowercase_front false t [] (IsAscii-from_all t h), append-nil t, append-nil (lower t))
full-ascii Upper t h = cc (uppercase_front t [] (IsAscii-from_all t h), append-nil t, append-nil (upper t))

-- an ASCII text that is not short is not short in a case
pub ascii-refused : (case : AsciiCase) (t : List ℕ) → IsAsciiText t → ¬ (IsShort t) → ¬ (IsShort (full_case case t))
ascii-refused case t ascii long = search (rules, full-ascii, size-converted)

-- of ASCII text each character is mapped to its case of ASCII
mapped-ascii : (case : AsciiCase) (t : List ℕ) → IsAscii t → mapped case t ≡ converted case t
mapped-ascii case [] h = refl
mapped-ascii case (c ∷ t) h = λ i. letters_ascii case c (h 0) i ++ mapped-ascii case t (λ k. h (suc k)) i

pub ruleset sizes_of_bytes = (OnErr-always, size-chars)

pub mapped-append : (case : AsciiCase) (a b : List ℕ) → mapped case (a ++ b) ≡ mapped case a ++ mapped case b
mapped-append case a b = flat_map-append (letters case) a b

pub sigma : chars (0xCE ∷ 0xA3 ∷ []) ≡ 0x3A3 ∷ []
unfolding lib.Utf8.encode
sigma = chars-encodes (0x3A3 ∷ []) refl

pub two_capitals : chars (0x53 ∷ 0x53 ∷ []) ≡ 0x53 ∷ 0x53 ∷ []
unfolding lib.Utf8.encode
two_capitals = chars-encodes (0x53 ∷ 0x53 ∷ []) refl

pub ruleset letters_appended = (common_steps, OnErr-always, appended-twice, appended-heap)

pub ruleset short_texts = (OnErr-always, full-ascii)

-- a text mapped part by part: what puts the builder on the heap with a part does so with the whole
pub part-heap : (case : AsciiCase) (old : BuilderState) (first rest t : List ℕ) → first ++ rest ≡ t
    → (appended old (mapped case first)).kind ≡ OnHeap → (appended old (mapped case t)).kind ≡ OnHeap
part-heap case old first rest t whole heap =
    cc (appended-heap old (mapped case first) (mapped case rest) heap, mapped-append case first rest, whole)

-- the parts so far, in a builder that was new
module _ (case : AsciiCase) (old now : BuilderState) (t rest : List ℕ) (h : IsPartOf case old now t rest) where
  pub part-new : old ≡ appended (empty_builder InBuffer) old.text → now ≡ appended (empty_builder InBuffer) now.text
  part-new new = new-appended old now (mapped case h.first) new h.put

  pub part-more : (then : BuilderState) (after : List ℕ) → IsPartOf case now then rest after → IsPartOf case old then t after
  part-more then after k = record {
    first = h.first ++ k.first;
    whole = append_assoc h.first k.first after ∙ ap (λ r. h.first ++ r) k.whole ∙ h.whole;
    put = cc (k.put, h.put, appended-twice old (mapped case h.first) (mapped case k.first), mapped-append case h.first k.first);
  }

  pub part-refused : (appended now (mapped case rest)).kind ≡ OnHeap → (appended old (mapped case t)).kind ≡ OnHeap
  part-refused heap =
      cc (heap, h.put, appended-twice old (mapped case h.first) (mapped case rest), mapped-append case h.first rest, h.whole)

  pub part-all : rest ≡ [] → now ≡ appended old (mapped case t)
  part-all none = cc (h.put, h.whole, none, append-nil h.first)

pub ruleset any_texts = (OnErr-always, OnHeap-long, full-ascii, ascii-refused, size-converted)

-- a part that is ASCII
module _ (case : AsciiCase) (text : List ℕ) (n : ℕ) (u : IsUtf8 text) (f : IsAsciiFront text n) where
  pub ascii-boundary : IsCharBoundary text n
  ascii-boundary = search (rules, IsCharBoundary-from_take, IsUtf8-from_ascii)

  ascii-whole : take n text ++ chars (drop n text) ≡ chars text
  ascii-whole =
      let parts = chars-append (take n text) (drop n text) (IsUtf8-from_ascii (take n text) f.low) in
      sym (rw (take-append-drop n text, chars-IsAscii (take n text) f.low) at parts)

  module _ (part : List ℕ) (is : part ≡ converted case (take n text)) where
    ascii-low : IsAscii part
    ascii-low = rw is (IsAscii-converted case (take n text) f.low)

    pub ascii-utf8 : IsUtf8 part
    ascii-utf8 = IsUtf8-from_ascii part ascii-low

    pub ascii-chars : chars part ≡ mapped case (take n text)
    ascii-chars = chars-IsAscii part ascii-low ∙ is ∙ sym (mapped-ascii case (take n text) f.low)

    pub ascii-part : (old new : BuilderState) → new ≡ appended old (chars part)
        → IsPartOf case old new (chars text) (chars (drop n text))
    ascii-part old new put = record { first = take n text; whole = ascii-whole; put = cc (put, ascii-chars) }

    pub ascii-part-heap : (old : BuilderState) → (appended old (chars part)).kind ≡ OnHeap
        → (appended old (mapped case (chars text))).kind ≡ OnHeap
    ascii-part-heap old heap =
        part-heap case old (take n text) (chars (drop n text)) (chars text) ascii-whole (cc (heap, ascii-chars))

-- an ASCII front in a case, in a new builder, and then the rest
module _ (case : AsciiCase) (text : List ℕ) (n : ℕ) (u : IsUtf8 text) (f : IsAsciiFront text n) where
  abbrev begun : BuilderState
  begun = appended (empty_builder InBuffer) (mapped case (take n text))

  pub begun-all : n ≡ length text → IsAsciiText (chars text)
  begun-all whole = (IsAscii-chars text u).0 (rw (take_all n text (omega (arith, whole))) at f.low)

  pub begun-refused : begun.kind ≡ OnHeap → ¬ (IsShort (full_case case (chars text)))
  begun-refused heap =
      let k = front_first case (take n text) (chars (drop n text)) f.low in
      let parts = ascii-whole case text n u f in
      OnHeap-long (full_case case (chars text))
      (cc (appended-heap (empty_builder InBuffer) (mapped case (take n text)) k.0 heap, k.1, mapped-ascii case (take n text) f.low, parts))

  pub begun-size : size (take n text) ≡ n
  begun-size = ap length (encodes-IsAscii (take n text) f.low) ∙ length-take-le n text f.inside

  pub begun-mapped : converted case (take n text) ≡ mapped case (take n text)
  begun-mapped = sym (mapped-ascii case (take n text) f.low)

  begun-long : INLINE_CAP < n → ¬ (IsShort (mapped case (take n text)))
  begun-long long short =
      omega (arith, long, rw (← begun-mapped) at short, size-converted case (take n text), begun-size)

  pub begun-heap : INLINE_CAP < n → begun.kind ≡ OnHeap
  begun-heap long = kind_with-long (mapped case (take n text)) (begun-long long)

-- in upper case the rest is mapped by itself, in lower case by its context
module _ (text : List ℕ) (n : ℕ) (u : IsUtf8 text) (f : IsAsciiFront text n) (b : BuilderState) where
  pub upper-rest : b ≡ appended (empty_builder InBuffer) (mapped Upper (take n text))
      → appended b (mapped Upper (chars (drop n text))) ≡ appended (empty_builder InBuffer) (full_case Upper (chars text))
  upper-rest is =
      cc (
        is,
        appended-twice (empty_builder InBuffer) (mapped Upper (take n text)) (mapped Upper (chars (drop n text))),
        mapped-append Upper (take n text) (chars (drop n text)),
        ascii-whole Upper text n u f,
      )

  pub lower-rest : b ≡ appended (empty_builder InBuffer) (mapped Lower (take n text)) → IsLowering (chars text) b n
  lower-rest is = record {
    rest = chars (drop n text);
    front = record {
      done = take n text;
      parts = sym (ascii-whole Lower text n u f);
      grown = new-appended (empty_builder InBuffer) b (mapped Lower (take n text)) refl is;
      text =
          let front = lowercase_front false (take n text) (chars (drop n text)) f.low in
          cc (is, mapped-ascii Lower (take n text) f.low, front, ascii-whole Lower text n u f);
    };
    at = begun-size Lower text n u f;
  }
