-- Reading the characters and escapes of a JSON string, from the front.
use Rattle.smol_str.proofs.Common.{◌≡◌, ◌<◌, ◌≤◌, ◌⊎◌, ℕ, List, [], ◌∷◌, ◌++◌, Bool, true, false, cond, ◌&&◌, IsTrue, Option, Some, None, refl, sym, ap, ◌∙◌, arith, common_steps, nat_tests, list_all, append_assoc, append-nil, encodes-append, encodes-chars, encode_utf8, encode_utf8_all}
use Rattle.std.specs.Char.{is_digit}
use Rattle.std.proofs.lemmas.Str.{encode_ascii}
use Rattle.smol_str.specs.Plain.{is_plain}
use Rattle.smol_str.specs.Unescaped.{Unescapes, UnescapesAfterU, BeginsWithUnit, IsSurrogatePair}
use Rattle.json.specs.Text.{content, plain, prepend, code_unit, short_escape}
use Rattle.json.specs.Lex.{lex, in_string}

-- ---- piece by piece

prepend-nil : (r : Option (List ℕ)) → prepend [] r ≡ r
prepend-nil None = refl
prepend-nil (Some s) = refl

prepend-prepend : (a b : List ℕ) (r : Option (List ℕ)) → prepend a (prepend b r) ≡ prepend (a ++ b) r
prepend-prepend a b None = refl
prepend-prepend a b (Some s) = ap Some (sym (append_assoc a b s))

pub Unescapes-nothing : (text : List ℕ) → Unescapes text [] text
Unescapes-nothing text = (sym (prepend-nil _), refl)

pub Unescapes-more : (text s rest more after : List ℕ) → Unescapes text s rest → Unescapes rest more after → Unescapes text (s ++ more) after
Unescapes-more text s rest more after h k = (h.0 ∙ ap (prepend s) k.0 ∙ prepend-prepend s more _, h.1 ∙ k.1)

-- a character more
pub Unescapes-character : (text t rest : List ℕ) (c : ℕ) (u after : List ℕ) → Unescapes text (encode_utf8_all t) rest
    → Unescapes rest (encode_utf8 c) after → u ≡ t ++ c ∷ [] → Unescapes text (encode_utf8_all u) after
Unescapes-character text t rest c u after h k is =
    let bytes : encode_utf8_all u ≡ encode_utf8_all t ++ encode_utf8 c = grind (arith, common_steps, encodes-append, append-nil) in
    rw bytes (Unescapes-more text _ rest _ after h k)

-- a byte that is neither a quote nor a backslash leaves the string open
lex-inside : (x : ℕ) (r : List ℕ) → (x ≡ 34 → ⊥) → (x ≡ 92 → ⊥) → lex in_string (x ∷ r) ≡ lex in_string r
unfolding lex
lex-inside x r not_quote not_backslash = grind (arith, common_steps, nat_tests)

-- plain bytes are read as they are
pub Unescapes-plain : (s rest : List ℕ) → list_all is_plain s ≡ true → Unescapes (s ++ rest) s rest
unfolding content
Unescapes-plain [] rest h = Unescapes-nothing rest
Unescapes-plain (x ∷ s) rest h =
    let tail = Unescapes-plain s rest (grind (arith, common_steps, nat_tests)) in (
      grind (arith, common_steps, nat_tests, tail.0, prepend-prepend (x ∷ []) s (content plain rest)),
      lex-inside x (s ++ rest) (grind (arith, common_steps, nat_tests)) (grind (arith, common_steps, nat_tests)) ∙ tail.1,
    )

pub ruleset pieces_read = (Unescapes-nothing, Unescapes-more, Unescapes-plain, encodes-append, encodes-chars, append_assoc, append-nil)

-- ---- escapes

pub Unescapes-letter : (text escape : List ℕ) (letter c : ℕ) (rest : List ℕ) → text ≡ 92 ∷ escape → escape ≡ letter ∷ rest
    → short_escape letter ≡ Some c → c < 128 → Unescapes text (encode_utf8 c) rest
unfolding content lex short_escape
Unescapes-letter text escape letter c rest begins continues e low = rw (begins, continues) (grind (arith, common_steps, nat_tests, encode_ascii), refl)

pub Unescapes-u : (text escape : List ℕ) (letter : ℕ) (digits s rest : List ℕ) → text ≡ 92 ∷ escape → escape ≡ letter ∷ digits
    → letter ≡ 117 → UnescapesAfterU digits s rest → Unescapes text s rest
unfolding content lex
Unescapes-u text escape letter digits s rest begins continues is h = rw (begins, continues, is) (h.0, h.1)

pub ruleset escapes = (Unescapes-letter, Unescapes-u)

-- ---- code units

lex-digit : (x : ℕ) (r : List ℕ) → is_digit x 16 ≡ true → lex in_string (x ∷ r) ≡ lex in_string r
lex-digit x r h = lex-inside x r (grind (arith, common_steps, nat_tests)) (grind (arith, common_steps, nat_tests))

all_four : (p q r s : Bool) (v u : ℕ) → cond (p && q && r && s) (Some v) None ≡ Some u → IsTrue p × IsTrue q × IsTrue r × IsTrue s
all_four true true true true v u e = (refl, refl, refl, refl)
all_four false q r s v u e = cc
all_four true false r s v u e = cc
all_four true true false s v u e = cc
all_four true true true false v u e = cc

module _ (text : List ℕ) (u : ℕ) (rest : List ℕ) (h : BeginsWithUnit text u rest) where
  digits : IsTrue (is_digit h.0 16) × IsTrue (is_digit h.1 16) × IsTrue (is_digit h.2 16) × IsTrue (is_digit h.3 16)
  unfolding code_unit
  digits = all_four (is_digit h.0 16) (is_digit h.1 16) (is_digit h.2 16) (is_digit h.3 16) _ u h.5

  lex-unit : lex in_string text ≡ lex in_string rest
  lex-unit = ap (lex in_string) h.4 ∙ lex-digit h.0 _ digits.0 ∙ lex-digit h.1 _ digits.1 ∙ lex-digit h.2 _ digits.2 ∙ lex-digit h.3 _ digits.3

  UnescapesAfterU-itself : (u < 0xd800) ⊎ (0xe000 ≤ u) → UnescapesAfterU text (encode_utf8 u) rest
  unfolding content
  UnescapesAfterU-itself far = (rw (h.4, h.5) (grind (arith, common_steps, nat_tests, far)), lex-unit)

-- a character by its own number, or by the two surrogates of a pair
pub UnescapesAfterU-one : (text : List ℕ) (u c : ℕ) (rest : List ℕ) → BeginsWithUnit text u rest → c ≡ u → (u < 0xd800) ⊎ (0xe000 ≤ u)
    → UnescapesAfterU text (encode_utf8 c) rest
UnescapesAfterU-one text u c rest h is far = rw is (UnescapesAfterU-itself text u rest h far)

pub UnescapesAfterU-pair : (text : List ℕ) (u : ℕ) (rest escape digits : List ℕ) (l c : ℕ) (after : List ℕ) → BeginsWithUnit text u rest
    → rest ≡ 92 ∷ escape → escape ≡ 117 ∷ digits → BeginsWithUnit digits l after → IsSurrogatePair u l c → UnescapesAfterU text (encode_utf8 c) after
unfolding content lex
UnescapesAfterU-pair text u rest escape digits l c after h begins continues k pair =
    let least : 0xd800 ≤ u = pair.0 in
    let most : u < 0xdc00 = pair.1 in
    let low : 0xdc00 ≤ l = pair.2 in
    let high : l < 0xe000 = pair.3 in (
      rw (pair.4, h.4, h.5, begins, continues, k.4, k.5) (grind (arith, common_steps, nat_tests)),
      lex-unit text u rest h ∙ ap (lex in_string) (begins ∙ ap (λ r. 92 ∷ r) continues) ∙ lex-unit digits l after k,
    )

pub ruleset units = (UnescapesAfterU-one, UnescapesAfterU-pair)
