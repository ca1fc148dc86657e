-- What other crates say of bytes, said of texts.
use Rattle.smol_str.proofs.Common.{◌≡◌, ◌++◌, ℕ, List, String, Global, Result, IfOk, IsAscii, IsUtf8, IsValueOf, Meaning, ap, subst, sym, ◌∙◌, chars, chars-IsAscii, chars_from_encodes, drop, encode_utf8_all, encodes-chars, string_bytes, take, take-append-drop}
use Rattle.smol_str.proofs.CallerLemmas.Common.{IsUtf8-string_bytes, chars-append}

-- a `String` whose bytes are the UTF-8 of a text has that text,
pub text_owned : (s : String Global) (t : List ℕ) → string_bytes s ≡ encode_utf8_all t → chars (string_bytes s) ≡ t
text_owned s t e = sym (chars_from_encodes t (string_bytes s) (IsUtf8-string_bytes s) (sym e))

-- so a value of it has that text; and it lends the same bytes
pub value_owned : {E : Type 0} (r : Result Meaning E) (s : String Global) (t : List ℕ)
    → IfOk r (λ v. IsValueOf (chars (string_bytes s)) v) → string_bytes s ≡ encode_utf8_all t → IfOk r (λ v. IsValueOf t v)
value_owned r s t is e = subst (λ x. IfOk r (λ v. IsValueOf x v)) (text_owned s t e) is

pub bytes_owned : (s : String Global) → encode_utf8_all (chars (string_bytes s)) ≡ string_bytes s
bytes_owned s = encodes-chars (string_bytes s) (IsUtf8-string_bytes s)

-- bytes of ASCII are their own characters
pub chars_ascii : (bs : List ℕ) → IsAscii bs → chars bs ≡ bs
chars_ascii bs ascii = chars-IsAscii bs ascii

pub ruleset owned = (text_owned, value_owned, bytes_owned, chars_ascii)

-- a `&str` that was cut at a boundary: its text is that of the two parts, one after the other
pub chars_cut : (n : ℕ) (bs front back : List ℕ) → IsUtf8 front → front ≡ take n bs → back ≡ drop n bs
    → chars bs ≡ chars front ++ chars back
chars_cut n bs front back u e f = ap chars (sym (take-append-drop n bs)) ∙ rw (← e, ← f) (chars-append front back u)
