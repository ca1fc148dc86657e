-- For the laws of counts: a text is count lines, and then a rest that begins with none, in one way.
use Rattle.std.proofs.Common.{◌≡◌, ◌≢◌, ◌↔◌, ℕ, ◌<◌, ◌^◌, List, [], ◌∷◌, ◌++◌, length, refl, ap, sym, subst, ◌∙◌, arith, append_assoc, append-nil, length-append}
use Rattle.std.specs.Prelude.{All}
use Rattle.std.specs.Fmt.{decimal}
use Rattle.std.specs.List.{flat_map}
use Rattle.std.specs.Str.Parse.{AllDigits}
use Rattle.std.proofs.lemmas.Fmt.{decimal_injective, digits_decimal}
use Rattle.std.proofs.lemmas.Grind.{get_or_default_zero}
use Rattle.std.proofs.lemmas.List.Concat.{flat_map-append}
use Rattle.std.proofs.lemmas.List.Elements.{All-nil, All-cons, All-head, All-tail, All-append}
use Rattle.std.proofs.lemmas.Str.Parse.{numerals_by_value, tells_digits, not_in_digits}
use Rattle.smol_tokens_core.specs.Tally.{tally}
use Rattle.smol_tokens_core.specs.Counts.{count_line, IsEntry, IsCounts, IsMerge, BeginsWith, IsFirstOther}

pub decimal-other : (c n : ℕ) → c < 48 → n < 2 ^ 64 → All (λ d. d ≢ c) (decimal n)
decimal-other c n low small k d l e =
    let own = numerals_by_value (AllDigits 10) tells_digits in
    not_in_digits own (decimal n) c (digits_decimal own n small) (λ range. omega (arith, range.0)) k l
    (sym (get_or_default_zero (decimal n) k d l) ∙ e)

-- a text is cut at its first c in one way
pub cut_once : (c : ℕ) (p q s t : List ℕ) → All (λ d. d ≢ c) p → All (λ d. d ≢ c) q → p ++ c ∷ s ≡ q ++ c ∷ t
    → (p ≡ q) × (s ≡ t)
cut_once c [] [] s t h k e = (refl, cc)
cut_once c [] (d ∷ q) s t h k e = absurd (All-head (λ d. d ≢ c) d q k (cc))
cut_once c (d ∷ p) [] s t h k e = absurd (All-head (λ d. d ≢ c) d p h (cc))
cut_once c (d ∷ p) (f ∷ q) s t h k e =
    let rest = cut_once c p q s t (All-tail (λ d. d ≢ c) d p h) (All-tail (λ d. d ≢ c) f q k) (cc) in (cc rest.0, rest.1)

-- one count line and what follows it
pub line : (e : List ℕ × ℕ) (rest : List ℕ) → flat_map count_line (e ∷ []) ++ rest ≡ decimal e.1 ++ 32 ∷ (e.0 ++ 10 ∷ rest)
line e rest = simp (append_assoc, append-nil)

first_once : (t s u : List ℕ) (e f : List ℕ × ℕ) → BeginsWith t (e ∷ []) s → BeginsWith t (f ∷ []) u → (e ≡ f) × (s ≡ u)
first_once t s u e f h k =
    let one : IsEntry e = h.1 0 e (omega arith) in
    let two : IsEntry f = k.1 0 f (omega arith) in
    let count = cut_once 32 (decimal e.1) (decimal f.1) _ _ (decimal-other 32 e.1 (omega arith) one.1)
    (decimal-other 32 f.1 (omega arith) two.1) (sym (line e s) ∙ sym h.0 ∙ k.0 ∙ line f u) in
    let token = cut_once 10 e.0 f.0 s u one.0 two.0 count.1 in
    let n = decimal_injective e.1 f.1 one.1 two.1 count.0 in ((λ i. (token.0 i, n i)), token.1)

pub head : (t rest : List ℕ) (e : List ℕ × ℕ) (es : List (List ℕ × ℕ)) → BeginsWith t (e ∷ es) rest
    → BeginsWith t (e ∷ []) (flat_map count_line es ++ rest)
head t rest e es h =
    (h.0 ∙ simp (append_assoc, append-nil), All-cons IsEntry e [] (All-head IsEntry e es h.1) (All-nil IsEntry))

abbrev pub BeginsWithNone : List ℕ → Type 0
BeginsWithNone rest = (e : List ℕ × ℕ) (after : List ℕ) → ¬ BeginsWith rest (e ∷ []) after

front-once : (t rest end : List ℕ) (es fs : List (List ℕ × ℕ)) → BeginsWith t es rest → BeginsWith t fs end
    → BeginsWithNone rest → BeginsWithNone end → (es ≡ fs) × (rest ≡ end)
front-once t rest end [] [] h k none last = (refl, sym h.0 ∙ k.0)
front-once t rest end [] (f ∷ fs) h k none last =
    let after = flat_map count_line fs ++ end in
    absurd (none f after (subst (λ s. BeginsWith s (f ∷ []) after) h.0 (head t end f fs k)))
front-once t rest end (e ∷ es) [] h k none last =
    let after = flat_map count_line es ++ rest in
    absurd (last e after (subst (λ s. BeginsWith s (e ∷ []) after) k.0 (head t rest e es h)))
front-once t rest end (e ∷ es) (f ∷ fs) h k none last =
    let first = first_once t _ _ e f (head t rest e es h) (head t end f fs k) in
    let more = front-once (flat_map count_line es ++ rest) rest end es fs (refl, All-tail IsEntry e es h.1)
    (first.1, All-tail IsEntry f fs k.1) none last in (cc (first.0, more.0), more.1)

pub nothing : BeginsWithNone []
nothing e after h =
    omega (arith, ap length (h.0 ∙ line e after), length-append (decimal e.1) (32 ∷ (e.0 ++ 10 ∷ after)))

pub counts-begin : (t : List ℕ) (es : List (List ℕ × ℕ)) → IsCounts t es → BeginsWith t es []
counts-begin t es is = (is.0 ∙ sym (append-nil (flat_map count_line es)), is.1)

pub IsCounts-once : (t : List ℕ) (es fs : List (List ℕ × ℕ)) → IsCounts t es → IsCounts t fs → es ≡ fs
IsCounts-once t es fs h k = (front-once t [] [] es fs (counts-begin t es h) (counts-begin t fs k) nothing nothing).0

pub not_counts : (t : List ℕ) (n : ℕ) (fs : List (List ℕ × ℕ)) → IsFirstOther t n → ¬ IsCounts t fs
not_counts t n fs other is =
    let same = front-once t other.1 [] other.0 fs other.2 (counts-begin t fs is) other.5 nothing in
    omega (arith, other.4, ap length same.1)

pub IsFirstOther-once : (t : List ℕ) (m n : ℕ) → IsFirstOther t m → IsFirstOther t n → m ≡ n
IsFirstOther-once t m n h k =
    let same = front-once t h.1 k.1 h.0 k.0 h.2 k.2 h.5 k.5 in omega (arith, h.3, k.3, ap length same.0)

-- the merge of count lines is that of the pairs which they are of
pub IsMerge-of : (t out : List ℕ) (es : List (List ℕ × ℕ)) → IsCounts t es → IsMerge t out ↔ IsCounts out (tally es)
IsMerge-of t out es is =
    (λ m. subst (λ fs. IsCounts out (tally fs)) (IsCounts-once t m.0 es m.1 is) m.2, λ k. (es, is, k))

pub IsMerge-once : (t out other : List ℕ) → IsMerge t out → IsMerge t other → out ≡ other
IsMerge-once t out other h k = h.2.0 ∙ sym ((IsMerge-of t other h.0 h.1).0 k).0

pub IsCounts-append : (a b : List ℕ) (es fs : List (List ℕ × ℕ)) → IsCounts a es → IsCounts b fs
    → IsCounts (a ++ b) (es ++ fs)
IsCounts-append a b es fs h k =
    (rw (h.0, k.0) (sym (flat_map-append count_line es fs)), All-append IsEntry es fs h.1 k.1)
