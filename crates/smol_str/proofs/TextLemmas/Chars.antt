-- The characters that bytes spell.
use Rattle.smol_str.proofs.Common.{◌≡◌, ap, sym, ◌∙◌, ℕ, List, [], ◌∷◌, ◌++◌, length, nil_from_length, pointwise, nat_eq, bytes_decides, same_from_decides, Decides-like, arith, rules, common_steps, append-nil, Global, bytes_eq, IsTrue, Meaning, size}
use Rattle.smol_str.proofs.Common.{encode_utf8, encode_utf8_all, chars, chars-nil, IsUtf8, encodes-chars, encodes_same, encodes-append, chars_from_encodes, chars-encodes, all_scalars, IsUtf8-string_bytes, String, string_bytes}
use Rattle.smol_str.specs.Keys.{stands_for}
use Rattle.smol_str.specs.Shared.{SharedText, shared_bytes}

pub chars-empty : (bs : List ℕ) → length bs ≡ 0 → chars bs ≡ []
chars-empty bs e = ap chars (nil_from_length bs e) ∙ chars-nil

-- two texts are equal exactly where their bytes are
pub bytes_eq-texts : (s t : List ℕ) → pointwise nat_eq (encode_utf8_all s) (encode_utf8_all t) ≡ pointwise nat_eq s t
bytes_eq-texts s t = grind (arith, common_steps, same_from_decides, Decides-like, encodes_same, bytes_decides)

-- the characters of the bytes that `as_str` lends are the text
pub chars-as_str : (t bs : List ℕ) → IsTrue (all_scalars t) → bs ≡ encode_utf8_all t → chars bs ≡ t
chars-as_str t bs scalars e = ap chars e ∙ chars-encodes t scalars

pub length-as_str : (t bs : List ℕ) → bs ≡ encode_utf8_all t → length bs ≡ size t
length-as_str t bs e = ap length e

pub ruleset lent = (chars-as_str, length-as_str)

-- the characters of the bytes of a text
pub chars-of : (t bs : List ℕ) → IsUtf8 bs → bs ≡ encode_utf8_all t → chars bs ≡ t
chars-of t bs u e = sym (chars_from_encodes t bs u (sym e))

pub IsUtf8-shared_bytes : {Z : Type 0} (s : SharedText Z) → IsUtf8 (shared_bytes s)
IsUtf8-shared_bytes s = IsUtf8-string_bytes s.text.value

-- a text equals the text of some bytes exactly where its bytes equal them
pub bytes_eq-chars : (t bs : List ℕ) → IsUtf8 bs →
    pointwise nat_eq (encode_utf8_all t) bs ≡ pointwise nat_eq t (chars bs)
bytes_eq-chars t bs u = search (rules, arith, encodes-chars, bytes_eq-texts)

pub chars-one : (c : ℕ) (bs : List ℕ) → IsUtf8 bs → bs ≡ encode_utf8 c → chars bs ≡ c ∷ []
chars-one c bs u e = chars-of (c ∷ []) bs u (cc (append-nil (encode_utf8 c)))

-- a character behind a text
pub chars-pushed : (old new : String Global) (c : ℕ) → string_bytes new ≡ string_bytes old ++ encode_utf8 c
    → chars (string_bytes new) ≡ chars (string_bytes old) ++ c ∷ []
chars-pushed old new c e =
    chars-of (chars (string_bytes old) ++ c ∷ []) (string_bytes new) (IsUtf8-string_bytes new)
    (grind (arith, common_steps, e, encodes-append, encodes-chars, append-nil, IsUtf8-string_bytes old))

-- a `&str` matches the keys of its text
pub stands_for-text : (bs : List ℕ) (key : Meaning) → IsUtf8 bs → stands_for bs key ≡ bytes_eq (chars bs) key.text
stands_for-text bs key u = search (rules, arith, encodes-chars, encodes_same)
