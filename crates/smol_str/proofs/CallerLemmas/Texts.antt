-- Texts: their bytes and sizes, builders, and one character in place of another.
use Rattle.smol_str.proofs.Common.{◌≡◌, sym, Result, IfOk, OnErr, subst, refl, ap, ◌∙◌, inl, IsTrue, rules, true, same_from_decides, ◌^◌, ltb, ltb-true, ℕ, ◌+◌, ◌<◌, ◌≤◌, arith, nat_eq, bytes_eq, get_or, list_all, ◌∷◌, ◌++◌, List, [], length, pointwise, encodes-IsAscii, IsAscii-from_all, IsUtf8-from_ascii, encode_utf8_all, chars, all_scalars, IsUtf8, chars-encodes, chars_from_encodes}
use Rattle.smol_str.proofs.Common.{encodes-chars, encodes_same, chars-IsAscii, IsAscii, encodes-append, IsAscii-cons, IsAscii-nil, INLINE_CAP, size, IsShort, IsResident, place_of, Meaning, IsValueOf, replaced_all, each_with, each_replaced}
use Rattle.smol_str.proofs.CallerLemmas.Common.{AllPass-from_list_all, bytes_eq-Decides, chars-append, chars-nil, encode_ascii}
use Rattle.std.proofs.lemmas.Fmt.{IsAscii-decimal}
use Rattle.std.specs.Fmt.{decimal}
use Rattle.smol_str.proofs.CaseLemmas.Ascii.{size-mapped}
use Rattle.smol_str.proofs.CutLemmas.Bytes.{each-moves, replaced_all-each, replaced_all-character}
use Rattle.smol_str.proofs.TextLemmas.Chars.{chars-as_str, length-as_str}
use Rattle.smol_str.proofs.TextLemmas.Sizes.{IsShort-chars, IsShort-front, size-chars}

-- ---- texts

-- a text of so few bytes needs no memory
pub IsResident-few : (bs : List ℕ) → IsUtf8 bs → length bs ≤ INLINE_CAP → IsResident (chars bs)
IsResident-few bs u few = inl (IsShort-chars bs u few)

-- a literal of ASCII: its bytes are its characters, and are UTF-8
chars-one : (c : ℕ) → c < 128 → chars (c ∷ []) ≡ c ∷ []
chars-one c ascii = chars-IsAscii (c ∷ []) (IsAscii-cons c [] ascii IsAscii-nil)

pub IsUtf8-one : (c : ℕ) → c < 128 → IsUtf8 (c ∷ [])
IsUtf8-one c ascii = IsUtf8-from_ascii (c ∷ []) (IsAscii-cons c [] ascii IsAscii-nil)

pub chars-cons : (c : ℕ) (bs : List ℕ) → c < 128 → chars (c ∷ bs) ≡ c ∷ chars bs
chars-cons c bs ascii = chars-append (c ∷ []) bs (IsUtf8-one c ascii) ∙ ap (λ t. t ++ chars bs) (chars-one c ascii)

-- one of any length, whose bytes are tested in one step
abbrev pub IsLiteral : List ℕ → Type 0
IsLiteral bs = list_all (λ b. ltb b 128) bs ≡ true

literal-ascii : (bs : List ℕ) → IsLiteral bs → IsAscii bs
literal-ascii bs low =
    let each = AllPass-from_list_all (λ b. ltb b 128) bs low in
    IsAscii-from_all bs (λ i d within. ltb-true (get_or bs i d) 128 (each i d within))

pub literal-utf8 : (bs : List ℕ) → IsLiteral bs → IsUtf8 bs
literal-utf8 bs low = IsUtf8-from_ascii bs (literal-ascii bs low)

pub encodes-literal : (bs : List ℕ) → IsLiteral bs → encode_utf8_all (chars bs) ≡ bs
encodes-literal bs low = encodes-chars bs (literal-utf8 bs low)

-- what `==` says of two `&str`s, of which the second may be a literal of ASCII
pub same_bytes : (bs cs : List ℕ) → pointwise nat_eq bs cs ≡ true → bs ≡ cs
same_bytes bs cs e = (bytes_eq-Decides bs cs).0 e

module _ (bs cs : List ℕ) (same : chars bs ≡ chars cs) (u : IsUtf8 bs) where
  pub str_same : IsUtf8 cs → pointwise nat_eq bs cs ≡ true
  str_same v = (bytes_eq-Decides bs cs).1 (sym (encodes-chars bs u) ∙ ap encode_utf8_all same ∙ encodes-chars cs v)

  pub literal_same : IsLiteral cs → pointwise nat_eq bs cs ≡ true
  literal_same low = str_same (literal-utf8 cs low)

pub ruleset spelled = (chars-cons, chars-nil, chars-encodes, chars_from_encodes, encodes-chars)

pub ruleset texts = (spelled, chars-as_str, length-as_str, size-chars, IsResident-few, IsShort-front)

-- two texts compared by `==` or `match`
pub ruleset compared = (same_bytes, str_same, literal_same, chars-as_str, chars-nil)

-- the same as a computed test. A literal of ASCII is its own text
pub chars-literal : (bs : List ℕ) → IsLiteral bs → chars bs ≡ bs
chars-literal bs low = chars-IsAscii bs (literal-ascii bs low)

module _ (bs cs : List ℕ) (u : IsUtf8 bs) where
  pub str_test : IsUtf8 cs → pointwise nat_eq (chars bs) (chars cs) ≡ pointwise nat_eq bs cs
  str_test v =
      sym (same_from_decides (bytes_eq bs cs) (bytes_eq (chars bs) (chars cs))
      (λ e. ap chars ((bytes_eq-Decides bs cs).0 e), λ e. str_same bs cs e u v) (bytes_eq-Decides (chars bs) (chars cs)))

  pub literal_test : IsLiteral cs → pointwise nat_eq (chars bs) cs ≡ pointwise nat_eq bs cs
  literal_test low = ap (λ t. pointwise nat_eq (chars bs) t) (sym (chars-literal cs low)) ∙ str_test (literal-utf8 cs low)

-- of what a value lends
pub lent_test : (t cs : List ℕ) → IsTrue (all_scalars t) → IsLiteral cs → pointwise nat_eq (encode_utf8_all t) cs ≡ pointwise nat_eq t cs
lent_test t cs scalars low =
    sym (literal_test (encode_utf8_all t) cs (t, (scalars, refl)) low) ∙ ap (λ u. pointwise nat_eq u cs) (chars-encodes t scalars)

pub ruleset tested = (literal_test, str_test, lent_test, bytes_eq-Decides, chars-cons, chars-nil)

-- ---- a text, or one character of ASCII, in place of each character of ASCII, as `text.replace_smolstr(alloc, "_", "-")`

pub replaced-each_with : (t : List ℕ) (x : ℕ) (bs : List ℕ) → x < 128 → IsAscii bs
    → replaced_all t (chars (x ∷ [])) (chars bs) ≡ each_with x bs t
replaced-each_with t x bs low ascii = search (rules, chars-one, chars-IsAscii, replaced_all-each)

replaced_each : (x y : ℕ) → x < 128 → y < 128 → (t : List ℕ) → replaced_all t (chars (x ∷ [])) (chars (y ∷ [])) ≡ each_replaced x y t
replaced_each x y low small t = (λ i. replaced_all t (chars-one x low i) (chars-one y small i)) ∙ replaced_all-character t x y

-- the clauses `ok` and `refused` as a caller says them
pub each_replaced-value : {E : Type 0} (r : Result Meaning E) (t : List ℕ) (x y : ℕ)
    → IfOk r (λ v. IsValueOf (replaced_all t (chars (x ∷ [])) (chars (y ∷ []))) v) → x < 128 → y < 128
    → IfOk r (λ v. IsValueOf (each_replaced x y t) v)
each_replaced-value r t x y is low small = subst (λ t. IfOk r (λ v. IsValueOf t v)) (replaced_each x y low small t) is

pub each_replaced-refused : {T E : Type 0} (r : Result T E) (t : List ℕ) (x y : ℕ)
    → OnErr r (¬ (IsShort (replaced_all t (chars (x ∷ [])) (chars (y ∷ []))))) → x < 128 → y < 128
    → OnErr r (¬ (IsShort (each_replaced x y t)))
each_replaced-refused r t x y long low small = subst (λ t. OnErr r (¬ (IsShort t))) (replaced_each x y low small t) long

-- and that no short text is refused, as long as the new one
pub size-replaced_each : (bs : List ℕ) (x y : ℕ) → IsUtf8 bs → x < 128 → y < 128
    → size (replaced_all (chars bs) (chars (x ∷ [])) (chars (y ∷ []))) ≡ size (chars bs)
size-replaced_each bs x y u low small = search (rules, arith, replaced_each, size-mapped, each-moves, size-chars)

pub ruleset replacing = (each_replaced-value, each_replaced-refused, size-replaced_each, replaced-each_with, IsAscii-cons, IsAscii-nil)

-- ---- what was printed

-- a value whose text has the bytes of t, where they are those that its contract says
pub printed-value : {E : Type 0} (r : Result Meaning E) (t : List ℕ) → IfOk r (λ v. encode_utf8_all v.text ≡ encode_utf8_all t)
    → IfOk r (λ v. v.place ≡ place_of v.text) → IfOk r (λ v. IsValueOf t v)
printed-value r t same place = search (rules, encodes_same)

-- the digits of a number are a text
pub encodes-decimal : (n : ℕ) → n < 2 ^ 64 → encode_utf8_all (decimal n) ≡ decimal n
encodes-decimal n fits = encodes-IsAscii (decimal n) (IsAscii-decimal n fits)

pub ruleset prints = (printed-value, encodes-append, encodes-chars, encodes-literal, encodes-decimal, encode_ascii)
