-- For `str_ext::replace`: each of one ASCII character replaced by another, byte for byte.
use Rattle.smol_str.proofs.Common.{◌≡◌, refl, sym, ap, ◌∙◌, if◌then◌else◌, rules, nat_tests, ℕ, zero, suc, ◌<◌, ◌≤◌, nat_eq, arith, Decides-eqb, not_from_Decides, List, [], ◌∷◌, ◌++◌, length, get_or, take, append-nil, length-append, length-map, take_at, common_steps, IsUtf8, chars, encode_utf8_all, encodes-chars, length-le-encodes}
use Rattle.smol_str.proofs.Common.{INLINE_CAP, IsShort, no_limit, replaced, replaced_all, each_with, each_replaced}
use Rattle.smol_str.proofs.CaseLemmas.Ascii.{MovesAscii, IsUtf8-map, chars-map, size-mapped}
use Rattle.smol_str.proofs.TextLemmas.Results.{OnErr-always}
use Rattle.smol_str.proofs.TextLemmas.Sizes.{size-chars}
use Rattle.smol_str.proofs.TextLemmas.Utf8.{form}
use Rattle.smol_str.proofs.CutLemmas.Replace.{replaced-unmatched, replaced-matched, replaced-passed}
use Rattle.smol_str.proofs.TextLemmas.Lists.{head_same}

-- ---- one character: what stays and what is replaced

-- ASCII goes to ASCII
pub each-moves : (x y : ℕ) → x < 128 → y < 128 → MovesAscii (λ c. if nat_eq c x then y else c)
each-moves x y low small = grind (arith, nat_tests)

module _ (x y : ℕ) (low : x < 128) (small : y < 128) (bs : List ℕ) (u : IsUtf8 bs) where
  pub IsUtf8-each : IsUtf8 (each_replaced x y bs)
  IsUtf8-each = IsUtf8-map (λ c. if nat_eq c x then y else c) (each-moves x y low small) bs u

  pub chars-each : chars (each_replaced x y bs) ≡ each_replaced x y (chars bs)
  chars-each = chars-map (λ c. if nat_eq c x then y else c) (each-moves x y low small) bs u

  -- no byte more, and none less
  pub long-each : INLINE_CAP < length bs → ¬ (IsShort (each_replaced x y (chars bs)))
  long-each long short = search (rules, size-mapped, each-moves, low)

-- what is read of a vector with these bytes, and room behind them
pub whole-each : (x y : ℕ) (text new rest : List ℕ) (len : ℕ) → new ≡ each_replaced x y text → len ≡ length text
    → take len (new ++ rest) ≡ each_replaced x y text
whole-each x y text new rest len made long = search (rules, take_at, length-map)

-- ---- each character replaced by matches, where the limit is at least the length of the text

-- w in place of the first n of the characters x
abbrev swapped : ℕ → List ℕ → List ℕ → ℕ → List ℕ
swapped x w t n = replaced t (x ∷ []) w n

swapped-nil : (x : ℕ) (w : List ℕ) (n : ℕ) → swapped x w [] n ≡ []
swapped-nil x w n = search (rules, replaced-unmatched, length-append)

swapped-kept : (x c : ℕ) (w t : List ℕ) (n : ℕ) → ¬ (c ≡ x) → swapped x w (c ∷ t) n ≡ c ∷ swapped x w t n
swapped-kept x c w t n differs = search (rules, replaced-passed, head_same)

swapped-taken : (x c : ℕ) (w t : List ℕ) (n : ℕ) → c ≡ x → swapped x w (c ∷ t) (suc n) ≡ w ++ swapped x w t n
swapped-taken x c w t n same = grind (arith, common_steps, length-append, replaced-matched)

each-swapped : (x : ℕ) (w t : List ℕ) (n : ℕ) → length t ≤ n → each_with x w t ≡ swapped x w t n
each-swapped x w [] n h = sym (swapped-nil x w n)
each-swapped x w (c ∷ t) zero h = absurd (omega arith)
each-swapped x w (c ∷ t) (suc n) h =
    let less = each-swapped x w t n (omega arith) in
    let all = each-swapped x w t (suc n) (omega arith) in
    search (rules, less, all, swapped-taken, Decides-eqb, swapped-kept, not_from_Decides)

-- a text for one character, character by character; and one character for one is a map
pub replaced_all-each : (t : List ℕ) (x : ℕ) (w : List ℕ) → replaced_all t (x ∷ []) w ≡ each_with x w t
replaced_all-each t x w = sym (each-swapped x w t (no_limit t) (omega arith))

each_with-one : (x y : ℕ) (t : List ℕ) → each_with x (y ∷ []) t ≡ each_replaced x y t
each_with-one x y [] = refl
each_with-one x y (c ∷ t) = search (rules, each_with-one x y t)

pub replaced_all-character : (t : List ℕ) (x y : ℕ) → replaced_all t (x ∷ []) (y ∷ []) ≡ each_replaced x y t
replaced_all-character t x y = replaced_all-each t x (y ∷ []) ∙ each_with-one x y t

pub each-replaced : (x y : ℕ) (bs : List ℕ) (n : ℕ) → IsUtf8 bs → length bs ≤ n
    → each_replaced x y (chars bs) ≡ replaced (chars bs) (x ∷ []) (y ∷ []) n
each-replaced x y bs n u h = search (rules, length-le-encodes, each_with-one, each-swapped, size-chars)

-- a text of one byte is one ASCII character
pub record IsOneByte (bs : List ℕ) : Type 0 where
  pub low : get_or bs 0 0 < 128
  pub text : chars bs ≡ get_or bs 0 0 ∷ []

pub one-byte : (bs : List ℕ) → IsUtf8 bs → length bs ≡ 1 → IsOneByte bs
one-byte bs u long = alone (chars bs) refl (encodes-chars bs u)
  where
    alone : (cs : List ℕ) → chars bs ≡ cs → encode_utf8_all cs ≡ bs → IsOneByte bs
    alone (c ∷ []) e f = search (rules, form, append-nil, ap length f)
    alone cs e f = absurd (omega (arith, ap length f, length-le-encodes cs))

pub ruleset each_byte = (IsUtf8-each, chars-each, whole-each, long-each, OnErr-always)
