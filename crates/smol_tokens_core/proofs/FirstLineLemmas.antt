-- For `first_line`: cutting a text at its first newline.
use Rattle.std.proofs.Common.{◌≡◌, ℕ, ◌<◌, ◌≢◌, ◌+◌, List, [], ◌∷◌, ◌++◌, length, take, drop, sym, ap, ◌∙◌, arith, encode_utf8_all, refl, append_assoc, append-nil, rules}
use Rattle.std.proofs.lemmas.List.Elements.{All-nil, All-cons}
use Rattle.std.specs.Prelude.{All}
use Rattle.std.specs.Str.{chars, IsUtf8}
use Rattle.std.proofs.lemmas.Str.{chars-encodes}
use Rattle.smol_str.specs.Text.{size}
use Rattle.smol_str.specs.Cut.{Occurs, IsNextMatch}
use Rattle.smol_str.proofs.CallerLemmas.{chars-take, chars-drop, size-append}
use Rattle.smol_tokens_core.specs.Lines.{newline, lines}
use Rattle.smol_tokens_core.proofs.LineLemmas.{lines-first, lines-last, none_newline}

-- a text in which a character does not occur
pub without : (c : ℕ) (t : List ℕ) → ¬ Occurs (c ∷ []) t → All (λ d. d ≢ c) t
without c [] none = All-nil (λ d. d ≢ c)
without c (d ∷ t) none =
    All-cons (λ d. d ≢ c) d t (λ e. none ([], t, ap (λ x. x ∷ t) e)) (without c t (λ o. none (d ∷ o.0, o.1, cc)))

-- a text without a newline
pub lines-one : (cs : List ℕ) → ¬ Occurs newline cs → 0 < length (encode_utf8_all cs) → lines cs ≡ cs ∷ []
lines-one cs none some = search (rules, lines-last, none_newline, without 10 cs none)

-- the bytes of a newline
pub chars-newline : chars newline ≡ newline
unfolding lib.Utf8.encode
chars-newline = chars-encodes newline refl

one_byte : size newline ≡ 1
unfolding lib.Utf8.encode
one_byte = refl

pub lines-split : (bs front back : List ℕ) (i : ℕ) → IsUtf8 bs → IsNextMatch [] (chars bs) newline i
    → front ≡ take i bs → back ≡ drop (i + 1) bs
    → lines (chars bs) ≡ chars front ∷ lines (chars back)
lines-split bs front back i u at is_front is_back =
    let behind = at.reads ∙ sym (append_assoc at.before newline at.after) in
    let next : size (at.before ++ newline) ≡ i + 1 = omega (arith, size-append, one_byte, at.index) in
    let is_r = chars-drop bs (at.before ++ newline) at.after (i + 1) u behind next in
    rw (is_front, is_back, chars-take bs at.before (10 ∷ at.after) i u at.reads at.index, is_r, at.reads)
    (lines-first at.before at.after (none_newline at.before (without 10 at.before (rw append-nil at at.first))))
