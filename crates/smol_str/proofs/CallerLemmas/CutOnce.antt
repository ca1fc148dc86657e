-- Texts that std searches and cuts once: `split_once`, `strip_prefix`, `strip_suffix`, `starts_with`, `ends_with` and `contains`.
use Rattle.smol_str.proofs.Common.{Bor, ◌≡◌, Bool, true, false, Option, Some, None, MatchOption, refl, sym, ap, ◌∙◌, subst, IsTrue, IfSome, arith, zero, suc, ℕ, ◌+◌, ◌-◌, ◌<◌, ◌≤◌, ◌==◌, List, [], ◌∷◌, ◌++◌, length, take, drop, append-nil, replicate, all_scalars, IsUtf8, chars, chars-nil, chars-append, chars-encodes, chars_from_encodes, encode_utf8, encode_utf8_all}
use Rattle.smol_str.proofs.Common.{encodes-append, false_from_ne_true, encodes-chars, len_utf8_bounds, size, Occurs, IsFirstAfter, take_all, nat_tests, common_steps, and_parts, scalars-chars}
use Rattle.smol_str.proofs.CallerLemmas.Common.{◌≢◌, MatchBool, get_or, IsCharBoundary, NonePass, trim, skip_leading_whitespace, drop_trailing_whitespace, CutsPrefixes, FindsCharPrefix, FindsChar, FindsText, FindsTextPrefix, FindsTextSuffix, HasCharAt, HasMatch, HasPrefixMatch, HasSuffixMatch, HasTextAt, LacksTextAt, StripsPrefix, StripsSuffix, drop-length, IsUtf8-drop, IsUtf8-take}
use Rattle.smol_str.proofs.CallerLemmas.Common.{encode_ascii, append_cancel_left, take_more, prefix_len, IfNone}
use Rattle.std.specs.Str.{trim_start, trim_end}
use Rattle.smol_str.proofs.CallerLemmas.Texts.{IsLiteral, encodes-literal, literal-utf8}
use Rattle.smol_str.proofs.CutLemmas.Cut.{same_parts}
use Rattle.smol_str.proofs.CallerLemmas.Splits.{bytes_there, found_char, found_parts, found_text}
use Rattle.smol_str.proofs.TextLemmas.Sizes.{size-append, size-chars, some_char}

-- ---- a character that occurs between bytes, before them or after them
module _ (c : ℕ) (bs : List ℕ) (u : IsUtf8 bs) where
  pub char_between : (i j : ℕ) → HasCharAt c bs i j
      → (chars bs ≡ chars (take i bs) ++ (c ∷ chars (drop j bs))) × IsUtf8 (take i bs) × IsUtf8 (drop j bs)
  char_between i j at =
      let h = found_parts bs u (c ∷ []) i j (omega arith) (cc (at.split, append-nil (encode_utf8 c))) in (h.3, h.1, h.2)

  pub char_in_front : (n : ℕ) → HasCharAt c bs 0 n
      → (HasCharAt c bs 0 n ≡ HasCharAt c bs 0 n) × (chars bs ≡ c ∷ chars (drop n bs)) × IsUtf8 (drop n bs)
  char_in_front n at =
      let h = char_between 0 n at in (refl, h.0 ∙ ap (λ front. front ++ (c ∷ chars (drop n bs))) chars-nil, h.2)

  pub char_at_end : (i : ℕ) → HasCharAt c bs i (length bs)
      → (HasCharAt c bs i (length bs) ≡ HasCharAt c bs i (length bs)) × (chars bs ≡ chars (take i bs) ++ (c ∷ []))
      × IsUtf8 (take i bs)
  char_at_end i at = let h = char_between i (length bs) at in (refl, cc (h.0, drop-length bs, chars-nil), h.1)

  module _ (passes : ℕ → Bool) (cs a r : List ℕ) (none : NonePass passes cs) (same : (d : ℕ) → passes d ≡ (d == c)) where
    lacks : NonePass (λ d. d == c) cs
    lacks = subst (λ test. NonePass test cs) (λ i d. same d i) none

    pub char_nowhere : encode_utf8_all cs ≡ bs → chars bs ≢ a ++ (c ∷ r)
    char_nowhere is e = found_char bs u c None (cs, is, lacks) (a, r, e)

    pub char_first : (i j : ℕ) → HasCharAt c bs i j → encode_utf8_all cs ≡ take i bs → chars (take i bs) ++ [] ≢ a ++ (c ∷ r)
    char_first i j at is e = (found_char bs u c (Some (i, j)) ((cs, is, lacks), at)).4 (a, r, e)

  pub contains-char : (b : Bool) → MatchBool b (HasMatch (FindsChar c) bs) (FindsChar c bs None)
      → MatchBool b (Occurs (c ∷ []) (chars bs)) (¬ Occurs (c ∷ []) (chars bs))
  contains-char true (i, j, found, order, within) = (chars (take i bs), chars (drop j bs), (char_between i j found.1).0)
  contains-char false none = found_char bs u c None none

-- `trim_start_matches` at a character
repeated-next : (k c : ℕ) (t : List ℕ) → replicate k c ++ (c ∷ t) ≡ replicate (suc k) c ++ t
repeated-next zero c t = refl
repeated-next (suc k) c t = ap (λ l. c ∷ l) (repeated-next k c t)

differs : (d c : ℕ) (t : List ℕ) → d ∷ t ≢ c ∷ t → (d == c) ≡ false
differs d c t other =
    false_from_ne_true (d == c) (λ e. let same : d ≡ c = grind (arith, nat_tests) in other (ap (λ x. x ∷ t) same))

past_repeated : (k c : ℕ) (t : List ℕ) → ((rest : List ℕ) → t ≢ c ∷ rest)
    → drop (prefix_len (λ d. d == c) (replicate k c ++ t)) (replicate k c ++ t) ≡ t
past_repeated zero c [] other = refl
past_repeated zero c (d ∷ t) other = rw (differs d c t (other t))
past_repeated (suc k) c t other =
    let same : (c == c) ≡ true = grind (arith, nat_tests) in
    let more : 1 + prefix_len (λ d. d == c) (replicate k c ++ t) ≡ suc (prefix_len (λ d. d == c) (replicate k c ++ t)) = omega arith in
    rw (same, more) (past_repeated k c t other)

module _ (c : ℕ) where
  cut_off : (ns : List ℕ) (s r : List ℕ) → IsUtf8 s → CutsPrefixes (FindsCharPrefix c) s ns r
      → IsUtf8 r × (chars s ≡ replicate (length ns) c ++ chars r)
  cut_off [] s r u same = (subst IsUtf8 (sym same) u, ap chars (sym same))
  cut_off (n ∷ ns) s r u (m, before, found, rest) =
      let h = cut_off ns s m u before in
      let one = char_in_front c m h.0 n found in (
        subst IsUtf8 (sym rest) one.2,
        h.1 ∙ ap (λ l. replicate (length ns) c ++ l) (one.1 ∙ ap (λ b. c ∷ chars b) (sym rest)) ∙ repeated-next (length ns) c (chars r),
      )

  none_left : (r : List ℕ) (o : Option ℕ) → IsUtf8 r → FindsCharPrefix c r o → IfSome o (λ n. n ≡ 0)
      → (rest : List ℕ) → chars r ≢ c ∷ rest
  none_left r None u found least rest e = found (encode_utf8_all rest) (sym (encodes-chars r u) ∙ ap encode_utf8_all e)
  none_left r (Some n) u found least rest e = let few = len_utf8_bounds c in omega (arith, found.ends, least, few.0)

  pub char_trimmed : (s r ns : List ℕ) (o : Option ℕ) → IsUtf8 s → CutsPrefixes (FindsCharPrefix c) s ns r
      → FindsCharPrefix c r o → IfSome o (λ n. n ≡ 0) → chars r ≡ drop (prefix_len (λ d. d == c) (chars s)) (chars s)
  char_trimmed s r ns o u cuts found least =
      let h = cut_off ns s r u cuts in
      rw h.1 (sym (past_repeated (length ns) c (chars r) (none_left r o h.0 found least)))

-- and `trim`, in its own words on characters: those of a text, and of its bytes
scalars-skip : (t : List ℕ) → IsTrue (all_scalars t) → IsTrue (all_scalars (skip_leading_whitespace t))
scalars-skip [] scalars = scalars
scalars-skip (c ∷ t) scalars = grind (arith, common_steps, and_parts, scalars-skip t)

scalars-drop_trailing : (t : List ℕ) → IsTrue (all_scalars t) → IsTrue (all_scalars (drop_trailing_whitespace t))
scalars-drop_trailing [] scalars = scalars
scalars-drop_trailing (c ∷ t) scalars = grind (arith, common_steps, and_parts, scalars-drop_trailing t)

pub chars-trim : (bs : List ℕ) → IsUtf8 bs → chars (trim bs) ≡ drop_trailing_whitespace (skip_leading_whitespace (chars bs))
unfolding trim_start trim_end
chars-trim bs u =
    let front = skip_leading_whitespace (chars bs) in
    let scalars = scalars-skip (chars bs) (scalars-chars bs u) in
    rw (chars-encodes front scalars) (chars-encodes _ (scalars-drop_trailing front scalars))

pub chars-trim_text : (t : List ℕ) → IsTrue (all_scalars t)
    → chars (trim (encode_utf8_all t)) ≡ drop_trailing_whitespace (skip_leading_whitespace t)
chars-trim_text t scalars = rw (chars-encodes t scalars) at (chars-trim (encode_utf8_all t) (t, (scalars, refl)))

pub ruleset trimmed = (char_trimmed, chars-trim, chars-trim_text)

-- ---- and a text, which may be a literal of ASCII
none_weaker : {T P Q : Type 0} (R : T → Type 0) (o : Option T) → (P → Q) → MatchOption o P R → IfNone o Q
none_weaker R None f said = f said
none_weaker R (Some x) f said = tt

module _ (nd bs : List ℕ) (u : IsUtf8 bs) where
  module _ (i j : ℕ) (at : HasTextAt nd bs i j) (some : 0 < length nd) where
    pub text_between : IsUtf8 nd
        → (chars bs ≡ chars (take i bs) ++ (chars nd ++ chars (drop j bs))) × IsUtf8 (take i bs) × IsUtf8 (drop j bs)
    text_between v =
        let h = found_parts bs u (chars nd) i j (some_char nd v some) (cc (at.split, encodes-chars nd v)) in (h.3, h.1, h.2)

    pub literal_between : IsLiteral nd
        → (chars bs ≡ chars (take i bs) ++ (chars nd ++ chars (drop j bs))) × IsUtf8 (take i bs) × IsUtf8 (drop j bs)
    literal_between low = text_between (literal-utf8 nd low)

    pub text_first : ((k : ℕ) → k < i → LacksTextAt nd bs k) → IsUtf8 nd → IsFirstAfter (chars nd) (chars (take i bs))
    text_first before v = (found_text bs u nd (Some (i, j)) v some (before, at)).4

  module _ (n : ℕ) (is : bs ≡ nd ++ drop n bs) (cut : IsCharBoundary bs (length nd)) (long : n ≡ length nd) where
    pub text_in_front : IsUtf8 nd → (chars bs ≡ chars nd ++ chars (drop n bs)) × IsUtf8 (drop n bs)
    text_in_front v =
        (ap chars is ∙ chars-append nd (drop n bs) v, IsUtf8-drop bs n u (subst (IsCharBoundary bs) (sym long) cut))

    pub literal_in_front : IsLiteral nd → (chars bs ≡ chars nd ++ chars (drop n bs)) × IsUtf8 (drop n bs)
    literal_in_front low = text_in_front (literal-utf8 nd low)

  pub text_at_end : (i : ℕ) → bs ≡ take i bs ++ nd → IsCharBoundary bs i → (chars bs ≡ chars (take i bs) ++ chars nd) × IsUtf8 (take i bs)
  text_at_end i is cut = let v = IsUtf8-take bs i u cut in (ap chars is ∙ chars-append (take i bs) nd v, v)

  module _ (a r : List ℕ) (none : (i : ℕ) → i ≤ length bs → LacksTextAt nd bs i) where
    pub text_nowhere : IsUtf8 nd → chars bs ≢ a ++ (chars nd ++ r)
    text_nowhere v e =
        let long : length bs ≡ size a + size (chars nd ++ r) = sym (size-chars bs u) ∙ ap size e ∙ size-append a (chars nd ++ r) in
        none (size a) (omega (arith, long)) (encode_utf8_all r) (bytes_there bs u nd a r v e)

  lacks_front : IsUtf8 nd → FindsTextPrefix nd bs None → (rest : List ℕ) → chars bs ≢ chars nd ++ rest
  lacks_front v none rest e = none (encode_utf8_all rest)
      (cc (encodes-chars bs u, ap encode_utf8_all e, encodes-append (chars nd) rest, encodes-chars nd v))

  lacks_end : IsUtf8 nd → FindsTextSuffix nd bs None → (front : List ℕ) → chars bs ≢ front ++ chars nd
  lacks_end v none front e = none (encode_utf8_all front)
      (cc (encodes-chars bs u, ap encode_utf8_all e, encodes-append front (chars nd), encodes-chars nd v))

  pub starts_with-text : (b : Bool) → MatchBool b (HasPrefixMatch (FindsTextPrefix nd) bs) (FindsTextPrefix nd bs None)
      → (IsUtf8 nd → MatchBool b ((rest : List ℕ) × (chars bs ≡ chars nd ++ rest)) ((rest : List ℕ) → chars bs ≢ chars nd ++ rest))
      × (IsLiteral nd → MatchBool b ((rest : List ℕ) × (chars bs ≡ chars nd ++ rest)) ((rest : List ℕ) → chars bs ≢ chars nd ++ rest))
  starts_with-text true (n, (long, is, cut), at) =
      (λ v. (chars (drop n bs), (text_in_front n is cut long v).0), λ low. (chars (drop n bs), (literal_in_front n is cut long low).0))
  starts_with-text false none = (λ v. lacks_front v none, λ low. lacks_front (literal-utf8 nd low) none)

  pub ends_with-text : (b : Bool) → MatchBool b (HasSuffixMatch (FindsTextSuffix nd) bs) (FindsTextSuffix nd bs None)
      → (IsUtf8 nd → MatchBool b ((front : List ℕ) × (chars bs ≡ front ++ chars nd)) ((front : List ℕ) → chars bs ≢ front ++ chars nd))
      × (IsLiteral nd → MatchBool b ((front : List ℕ) × (chars bs ≡ front ++ chars nd)) ((front : List ℕ) → chars bs ≢ front ++ chars nd))
  ends_with-text true (n, (long, is, boundary), within, cut) =
      let front = chars (take (length bs - n) bs) in
      let ends = (text_at_end (length bs - n) is cut).0 in (λ v. (front, ends), λ low. (front, ends))
  ends_with-text false none = (λ v. lacks_end v none, λ low. lacks_end (literal-utf8 nd low) none)

  pub contains-text : (b : Bool) → 0 < length nd → IsUtf8 nd → MatchBool b (HasMatch (FindsText nd) bs) (FindsText nd bs None)
      → MatchBool b (Occurs (chars nd) (chars bs)) (¬ Occurs (chars nd) (chars bs))
  contains-text true some v (i, j, found, order, within) = (chars (take i bs), chars (drop j bs), (text_between i j found.1 some v).0)
  contains-text false some v none = found_text bs u nd None v some none

  pub contains-literal : (b : Bool) → 0 < length nd → IsLiteral nd → MatchBool b (HasMatch (FindsText nd) bs) (FindsText nd bs None)
      → MatchBool b (Occurs (chars nd) (chars bs)) (¬ Occurs (chars nd) (chars bs))
  contains-literal b some low said = contains-text b some (literal-utf8 nd low) said

  -- where there is no match of a literal
  module _ {T : Type 0} (o : Option T) (P : T → Type 0) (low : IsLiteral nd) where
    pub split_once-none : 0 < length nd → MatchOption o (FindsText nd bs None) P → IfNone o (¬ Occurs (chars nd) (chars bs))
    split_once-none some said = none_weaker P o (λ none. found_text bs u nd None (literal-utf8 nd low) some none) said

    pub strip_prefix-none : MatchOption o (FindsTextPrefix nd bs None) P → IfNone o ((rest : List ℕ) → chars bs ≢ chars nd ++ rest)
    strip_prefix-none said = none_weaker P o (lacks_front (literal-utf8 nd low)) said

    pub strip_suffix-none : MatchOption o (FindsTextSuffix nd bs None) P → IfNone o ((front : List ℕ) → chars bs ≢ front ++ chars nd)
    strip_suffix-none said = none_weaker P o (lacks_end (literal-utf8 nd low)) said

-- what `strip_prefix` and `strip_suffix` give, at a text or a literal of any length
pub strip_prefix-some : (o : Option (Bor (List ℕ))) (q bs : List ℕ) → IsUtf8 bs
    → MatchOption o (FindsTextPrefix q bs None) (λ x. StripsPrefix (FindsTextPrefix q) bs x.now) → IsUtf8 q
    → IfSome o (λ x. chars bs ≡ chars q ++ chars x.now)
strip_prefix-some None q bs u said v = tt
strip_prefix-some (Some x) q bs u (n, (long, is, cut), same, ends) v = rw same (text_in_front q bs u n is cut long v).0

pub strip_literal-some : (o : Option (Bor (List ℕ))) (q bs : List ℕ) → IsUtf8 bs
    → MatchOption o (FindsTextPrefix q bs None) (λ x. StripsPrefix (FindsTextPrefix q) bs x.now) → IsLiteral q
    → IfSome o (λ x. chars bs ≡ chars q ++ chars x.now)
strip_literal-some o q bs u said low = strip_prefix-some o q bs u said (literal-utf8 q low)

pub strip_suffix-some : (o : Option (Bor (List ℕ))) (q bs : List ℕ) → IsUtf8 bs
    → MatchOption o (FindsTextSuffix q bs None) (λ x. StripsSuffix (FindsTextSuffix q) bs x.now)
    → IfSome o (λ x. chars bs ≡ chars x.now ++ chars q)
strip_suffix-some None q bs u said = tt
strip_suffix-some (Some x) q bs u (n, (long, is, cut), same, ends) =
    rw same (text_at_end q bs u (length bs - n) is (subst (λ k. IsCharBoundary bs (length bs - k)) (sym long) cut)).0

-- where what is behind p does not end with q, the whole does not read as p, anything and q
module _ {T : Type 0} (o : Option T) (P : T → Type 0) (p q bs rest : List ℕ) (u : IsUtf8 bs)
    (said : MatchOption o (FindsTextSuffix q rest None) P) (is : bs ≡ p ++ rest) where
  pub strip_both-none : IsUtf8 p → IsUtf8 q → IfNone o ((m : List ℕ) → chars bs ≢ chars p ++ (m ++ chars q))
  strip_both-none v w =
      none_weaker P o (λ none m e. none (encode_utf8_all m) (append_cancel_left p _ _ (cc (
        is,
        encodes-chars bs u,
        ap encode_utf8_all e,
        encodes-append (chars p) (m ++ chars q),
        encodes-append m (chars q),
        encodes-chars p v,
        encodes-chars q w,
      )))) said

  pub strip_literals-none : IsLiteral p → IsLiteral q → IfNone o ((m : List ℕ) → chars bs ≢ chars p ++ (m ++ chars q))
  strip_literals-none low small = strip_both-none (literal-utf8 p low) (literal-utf8 q small)

-- a search at a character, and at a text; what is at the ends, and what was asked
pub ruleset at_char = (char_between, char_first, char_nowhere, char_in_front, char_at_end)

pub ruleset at_ends = (text_in_front, literal_in_front, text_at_end)

pub ruleset at_text = (text_between, literal_between, text_first, text_nowhere, at_ends)

pub ruleset asked = (starts_with-text, ends_with-text, contains-char, contains-text, contains-literal, split_once-none)

pub ruleset cut_once = (append-nil, chars_from_encodes, encodes-append, encodes-chars, encodes-literal, at_char, at_text, asked)

-- `strip_prefix` or `strip_suffix` at a literal, of any length: apart, since `cut_once` has no room for more
pub ruleset none_stripped = (strip_prefix-none, strip_suffix-none)

pub ruleset stripped = (strip_prefix-some, strip_literal-some, strip_suffix-some, none_stripped)

-- beside `cut_once`: where `strip_suffix` finds none behind what `strip_prefix` took
pub ruleset stripped_both = (encodes-append, encodes-chars, encodes-literal, at_ends, none_stripped, strip_both-none, strip_literals-none)

-- a text cut at several literals or texts, one after another
pub ruleset cut_at_texts = (text_between, literal_between)

-- ---- a byte that `strip_prefix` or `strip_suffix` did not find, in a contract on bytes

no_first : (c : ℕ) (bs : List ℕ) → 0 < c → ((rest : List ℕ) → bs ≢ c ∷ rest) → (get_or bs 0 0 == c) ≡ false
no_first c [] some none = grind (arith, nat_tests)
no_first c (b ∷ bs) some none = differs b c bs (none bs)

no_last : (c : ℕ) (bs : List ℕ) → 0 < c → ((front : List ℕ) → bs ≢ front ++ (c ∷ [])) → (get_or bs (length bs - 1) 0 == c) ≡ false
no_last c [] some none = grind (arith, nat_tests)
no_last c (b ∷ bs) some none = false_from_ne_true _ (λ e.
    let whole = b ∷ bs in
    let at = length whole - 1 in
    let same : get_or whole at 0 ≡ c = grind (arith, nat_tests) in
    none (take at whole) (cc (take_more whole at 0 (omega arith), take_all (at + 1) whole (omega arith), same)))

pub begins_not : (c : ℕ) (bs : List ℕ) → 0 < c → c < 128 → ((rest : List ℕ) → bs ≢ encode_utf8 c ++ rest) → (get_or bs 0 0 == c) ≡ false
begins_not c bs some low none = no_first c bs some (λ rest e. none rest (e ∙ ap (λ front. front ++ rest) (sym (encode_ascii c low))))

pub ends_not : (c : ℕ) (bs : List ℕ) → 0 < c → c < 128 → ((front : List ℕ) → bs ≢ front ++ encode_utf8 c)
    → (get_or bs (length bs - 1) 0 == c) ≡ false
ends_not c bs some low none = no_last c bs some (λ front e. none front (e ∙ ap (λ end. front ++ end) (sym (encode_ascii c low))))

pub ruleset not_taken = (begins_not, ends_not)

-- texts that are cut at their first matches of a character, or of a text, are cut alike
pub same_at_char : (c : ℕ) (q x : List ℕ) → IsFirstAfter (c ∷ []) q → (q ++ (c ∷ x) ≡ q ++ (c ∷ x))
    × ((r y : List ℕ) → IsFirstAfter (c ∷ []) r → q ++ (c ∷ x) ≡ r ++ (c ∷ y) → (q ≡ r) × (x ≡ y))
same_at_char c q x first = (refl, λ r y other e. same_parts (c ∷ []) q r x y (omega arith) e first other)

pub same_at_text : (p q x : List ℕ) → 0 < length p → IsFirstAfter p q → (q ++ (p ++ x) ≡ q ++ (p ++ x))
    × ((r y : List ℕ) → IsFirstAfter p r → q ++ (p ++ x) ≡ r ++ (p ++ y) → (q ≡ r) × (x ≡ y))
same_at_text p q x some first = (refl, λ r y other e. same_parts p q r x y some e first other)

-- and at their last matches of a character
last_alike : (c : ℕ) (a b k j : List ℕ) → ¬ Occurs (c ∷ []) k → ¬ Occurs (c ∷ []) j → a ++ (c ∷ k) ≡ b ++ (c ∷ j)
    → (a ≡ b) × (k ≡ j)
last_alike c [] [] k j none other e = (refl, ap (drop 1) e)
last_alike c [] (y ∷ b) k j none other e = absurd (none (b, j, ap (drop 1) e))
last_alike c (x ∷ a) [] k j none other e = absurd (other (a, k, sym (ap (drop 1) e)))
last_alike c (x ∷ a) (y ∷ b) k j none other e =
    let rest = last_alike c a b k j none other (ap (drop 1) e) in (cc (e, rest.0), rest.1)

pub same_at_last : (c : ℕ) (a k : List ℕ) → ¬ Occurs (c ∷ []) k → (a ++ (c ∷ k) ≡ a ++ (c ∷ k))
    × ((b j : List ℕ) → ¬ Occurs (c ∷ []) j → a ++ (c ∷ k) ≡ b ++ (c ∷ j) → (a ≡ b) × (k ≡ j))
same_at_last c a k none = (refl, λ b j other e. last_alike c a b k j none other e)

pub ruleset cut_alike = (same_at_char, same_at_text, same_at_last)
