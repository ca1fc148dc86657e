-- For `Tally`: a table by values, seen as pairs of texts and counts.
use Rattle.std.proofs.Common.{◌≡◌, ℕ, ◌+◌, List, [], ◌∷◌, ◌++◌, cond, Option, None, Some, unwrap_or, arith, rules, refl, ap, sym, ◌∙◌, ◌<◌, ◌≤◌, ◌^◌, bytes_eq}
use Rattle.std.specs.Prelude.{MatchOption}
use Rattle.std.specs.Map.{lookup, set_value}
use Rattle.std.specs.Str.{chars, IsUtf8}
use Rattle.std.proofs.lemmas.Map.Steps.{set_value_same}
use Rattle.indexmap.specs.IndexMap.{insert_entry}
use Rattle.smol_str.specs.Keys.{stands_for}
use Rattle.smol_str.specs.Meaning.{Meaning}
use Rattle.smol_str.proofs.CallerLemmas.{stands_for-text}
use Rattle.smol_tokens_core.specs.Tally.{times_of, tally, HasEachOnce, by_text}
use Rattle.smol_tokens_core.proofs.TallyLemmas.{bytes_eq_itself, by_same, once-tally}
use Rattle.smol_tokens_core.proofs.TableLemmas.{tally-added, lookup-tally, tally-table}

-- of a list that has each text once, a look-up finds the sum of its times
pub lookup-once : (t : List ℕ) (pairs : List (List ℕ × ℕ)) → HasEachOnce pairs →
    unwrap_or (lookup (bytes_eq t) pairs) 0 ≡ times_of t pairs
lookup-once t pairs once = cc (tally-table pairs once, lookup-tally pairs t)

-- one insert takes up one pair more, and what was inserted is found
lookup-insert : (pairs : List (List ℕ × ℕ)) (t : List ℕ) (n : ℕ) →
    lookup (bytes_eq t) (insert_entry bytes_eq pairs t n) ≡ Some n
lookup-insert [] t n = search (rules, bytes_eq_itself)
lookup-insert (e ∷ es) t n = search (rules, by_same, lookup-insert es t n)

put : (pairs : List (List ℕ × ℕ)) (t : List ℕ) (found : Option ℕ) (times n : ℕ) → HasEachOnce pairs
    → lookup (bytes_eq t) pairs ≡ found → n ≡ unwrap_or found 0 + times
    → (insert_entry bytes_eq pairs t n ≡ tally (pairs ++ (t, times) ∷ []))
    × (lookup (bytes_eq t) (insert_entry bytes_eq pairs t n) ≡ Some n)
put pairs t found times n once looked_up is =
    let had = lookup-once t pairs once in
    (cc (tally-table pairs once, tally-added pairs t times, had), lookup-insert pairs t n)

-- a look-up by a value is one by its text, and an insert of a value one of its text
pub lookup-by_text : (t : List ℕ) (es : List (Meaning × ℕ)) →
    lookup (λ (k : Meaning). bytes_eq t k.text) es ≡ lookup (bytes_eq t) (by_text es)
lookup-by_text t [] = refl
lookup-by_text t (e ∷ es) = ap (cond (bytes_eq t e.0.text) (Some e.1)) (lookup-by_text t es)

insert-by_text : (es : List (Meaning × ℕ)) (token : Meaning) (n : ℕ) →
    by_text (insert_entry (λ (x y : Meaning). bytes_eq x.text y.text) es token n) ≡
    insert_entry bytes_eq (by_text es) token.text n
insert-by_text [] token n = refl
insert-by_text (e ∷ es) token n = search (rules, by_same, insert-by_text es token n)

-- a new token that goes in
added-new : (es new : List (Meaning × ℕ)) (was : List (List ℕ × ℕ)) (token : Meaning) (times : ℕ)
    → by_text es ≡ was → HasEachOnce (by_text es) → lookup (bytes_eq token.text) was ≡ None
    → new ≡ insert_entry (λ (x y : Meaning). bytes_eq x.text y.text) es token times
    → (by_text new ≡ tally (was ++ (token.text, times) ∷ [])) × (lookup (bytes_eq token.text) (by_text new) ≡ Some times)
added-new es new was token times is once none after =
    rw (← is, after, insert-by_text es token times)
    (put (by_text es) token.text None times times once (cc (is, none)) (omega arith))

-- by whether a count fits
pub by_sum : {P : Type 0} (Q : Type 0) (R : ℕ → Type 0) (sum : Option ℕ) → MatchOption sum Q R
    → ((more : ℕ) → sum ≡ Some more → R more → P) → (sum ≡ None → Q → P) → P
by_sum Q R (Some more) holds fits full = fits more refl holds
by_sum Q R None holds fits full = full refl holds

-- looked up by the bytes of a text, where the count is written at the token that is there
lookup-by_bytes : (bs : List ℕ) (es : List (Meaning × ℕ)) → IsUtf8 bs
    → lookup (stands_for bs) es ≡ lookup (bytes_eq (chars bs)) (by_text es)
lookup-by_bytes bs [] u = refl
lookup-by_bytes bs (e ∷ es) u = search (rules, stands_for-text, lookup-by_bytes bs es u)

set_there : (bs : List ℕ) (es : List (Meaning × ℕ)) (n m : ℕ) → IsUtf8 bs → Some n ≡ lookup (stands_for bs) es
    → by_text (set_value (stands_for bs) es m) ≡ insert_entry bytes_eq (by_text es) (chars bs) m
set_there bs [] n m u there = absurd (cc there)
set_there bs (e ∷ es) n m u there = search (rules, by_same, stands_for-text, set_there bs es n m u)

-- what a look-up by the bytes of t finds is how often t was counted, and a count written there is one more entry
module _ (bs t : List ℕ) (es : List (Meaning × ℕ)) (was : List (List ℕ × ℕ)) (u : IsUtf8 bs) (of_t : chars bs ≡ t)
    (is : by_text es ≡ was) (once : HasEachOnce (by_text es)) where
  pub looked_up : (found : Option ℕ) → found ≡ lookup (stands_for bs) es
      → (lookup (bytes_eq t) was ≡ found) × (times_of t was ≡ unwrap_or found 0)
  looked_up found e = search (rules, arith, lookup-by_bytes, lookup-once)

  counted-again : (new : List (Meaning × ℕ)) (n times more : ℕ) → Some n ≡ lookup (stands_for bs) es
      → more ≡ n + times → new ≡ set_value (stands_for bs) es more
      → (by_text new ≡ tally (was ++ (t, times) ∷ [])) × (lookup (bytes_eq t) (by_text new) ≡ Some more)
  counted-again new n times more found sum after =
      rw (← is, ← of_t, after, set_there bs es n more u found)
      (put (by_text es) (chars bs) (Some n) times more once (cc (is, of_t, (looked_up (Some n) found).0)) sum)

  -- so many times added to the count, where they fit
  pub added-there : (sum : Option ℕ) (new : List (Meaning × ℕ)) (n m times : ℕ) → Some n ≡ lookup (stands_for bs) es
      → MatchOption sum ((m ≡ n) × (2 ^ 64 ≤ n + times)) (λ more. (m ≡ more) × (more ≡ n + times) × (more < 2 ^ 64))
      → new ≡ set_value (stands_for bs) es m
      → HasEachOnce (by_text new)
      × MatchOption sum ((by_text new ≡ was) × (2 ^ 64 ≤ times_of t was + times))
      (λ more. (by_text new ≡ tally (was ++ (t, times) ∷ [])) × (lookup (bytes_eq t) (by_text new) ≡ Some more)
      × (times_of t was + times < 2 ^ 64))
  added-there (Some more) new n m times found (is_more, sum, small) after =
      let made = counted-again new n times more found sum (rw (after, is_more) refl) in
      (rw made.0 (once-tally _), (made.0, made.1, omega (arith, (looked_up (Some n) found).1, sum, small)))
  added-there None new n m times found (same, large) after =
      let as_before = ap by_text (after ∙ ap (set_value (stands_for bs) es) same ∙ set_value_same _ es n (sym found)) ∙ is in
      (rw as_before (rw is at once), (as_before, omega (arith, (looked_up (Some n) found).1, large)))

  -- a value of t, inserted where there is none
  pub added-missing : (same new : List (Meaning × ℕ)) (token : Meaning) (times : ℕ) → None ≡ lookup (stands_for bs) es
      → same ≡ es → token.text ≡ t → times < 2 ^ 64
      → new ≡ insert_entry (λ (x y : Meaning). bytes_eq x.text y.text) same token times
      → HasEachOnce (by_text new) × (by_text new ≡ tally (was ++ (t, times) ∷ []))
      × (lookup (bytes_eq t) (by_text new) ≡ Some times) × (times_of t was + times < 2 ^ 64)
  added-missing same new token times missing is_same text small after =
      let none = looked_up None missing in
      let made = added-new es new was token times is once (rw text none.0) (rw (after, is_same) refl) in
      (rw made.0 (once-tally _), rw (← text) made.0, rw (← text) made.1, omega (arith, none.1, small))
