-- For the laws of tallies by steps: a list in which no token occurs twice is its tally, and takes one more entry.
use Rattle.std.proofs.Common.{◌≡◌, ◌≢◌, ℕ, ◌+◌, suc, List, [], ◌∷◌, ◌++◌, false, unwrap_or, refl, arith, rules, append_assoc, append-nil, bytes_eq}
use Rattle.std.specs.Prelude.{All}
use Rattle.std.specs.List.{AllPairs}
use Rattle.std.specs.Map.{lookup}
use Rattle.indexmap.specs.IndexMap.{insert_entry}
use Rattle.std.proofs.lemmas.List.Sums.{sum_by-append}
use Rattle.std.proofs.lemmas.List.Elements.{All-head, All-tail}
use Rattle.smol_str.proofs.CallerLemmas.{bytes_eq-apart}
use Rattle.smol_tokens_core.specs.Tally.{tokens, times_of, tally}
use Rattle.smol_tokens_core.proofs.TallyLemmas.{same_from, bytes_eq_itself, by_same, other_from, times-cons, without_token, tally-cons, once-tally}

-- a token without an entry
new : (t : List ℕ) (es : List (List ℕ × ℕ)) → All (λ u. t ≢ u) (tokens es)
    → (times_of t es ≡ 0) × (without_token t es ≡ es)
new t [] h = (refl, refl)
new t (e ∷ es) h =
    search (rules, arith, times-cons, other_from, All-head, new t es (All-tail (λ u. t ≢ u) e.0 (tokens es) h))

pub tally-table : (es : List (List ℕ × ℕ)) → AllPairs (λ s u. s ≢ u) (tokens es) → tally es ≡ es
tally-table [] h = refl
tally-table (e ∷ es) h =
    let first = new e.0 es (λ k d l. h 0 (suc k) d (omega arith) (omega arith)) in
    let rest = tally-table es (λ i j d l k. h (suc i) (suc j) d (omega arith) (omega arith)) in
    search (rules, tally-cons, first, rest)

-- the entry of a token is found, and put, whether or not those of others are there
lookup-others : (t k : List ℕ) (es : List (List ℕ × ℕ)) → bytes_eq t k ≡ false
    → lookup (bytes_eq t) (without_token k es) ≡ lookup (bytes_eq t) es
lookup-others t k [] h = refl
lookup-others t k (e ∷ es) h = search (rules, by_same, same_from, lookup-others t k es h)

put-others : (t k : List ℕ) (es : List (List ℕ × ℕ)) (v : ℕ) → bytes_eq k t ≡ false
    → without_token k (insert_entry bytes_eq es t v) ≡ insert_entry bytes_eq (without_token k es) t v
put-others t k [] v h = search rules
put-others t k (e ∷ es) v h = search (rules, by_same, same_from, bytes_eq-apart, put-others t k es v h)

put-same : (t : List ℕ) (es : List (List ℕ × ℕ)) (v : ℕ)
    → without_token t (insert_entry bytes_eq es t v) ≡ without_token t es
put-same t [] v = search (rules, bytes_eq_itself)
put-same t (e ∷ es) v = search (rules, by_same, put-same t es v)

-- how often a token occurs, by whether the first entry is its own
ruleset times = (by_same, same_from, tally-cons, times-cons)

pub lookup-tally : (es : List (List ℕ × ℕ)) (t : List ℕ) → unwrap_or (lookup (bytes_eq t) (tally es)) 0 ≡ times_of t es
lookup-tally [] t = refl
lookup-tally (e ∷ es) t = search (rules, arith, times, lookup-others, lookup-tally es t)

-- the count of a token in a tally is the sum of its times
pub times_of-tally : (t : List ℕ) (es : List (List ℕ × ℕ)) → times_of t (tally es) ≡ times_of t es
times_of-tally t es = cc (tally-table (tally es) (once-tally es), lookup-tally (tally es) t, lookup-tally es t)

pub tally-added : (es : List (List ℕ × ℕ)) (t : List ℕ) (n : ℕ)
    → tally (es ++ (t, n) ∷ []) ≡ insert_entry bytes_eq (tally es) t (times_of t es + n)
tally-added [] t n = search (rules, times-cons, bytes_eq_itself)
tally-added (e ∷ es) t n =
    search (rules, arith, times, sum_by-append, bytes_eq-apart, put-same, put-others, tally-added es t n)

-- a tally of a tally and more: a tally takes one more entry, whatever list it is of
same_so_far : (es fs more : List (List ℕ × ℕ)) → tally es ≡ tally fs → tally (es ++ more) ≡ tally (fs ++ more)
same_so_far es fs [] h = search (rules, arith, append-nil)
same_so_far es fs (e ∷ more) h =
    let first : tally (es ++ e ∷ []) ≡ tally (fs ++ e ∷ []) =
    cc (tally-added es e.0 e.1, tally-added fs e.0 e.1, lookup-tally es e.0, lookup-tally fs e.0) in
    rw (← append_assoc es (e ∷ []) more, ← append_assoc fs (e ∷ []) more)
    (same_so_far (es ++ e ∷ []) (fs ++ e ∷ []) more first)

pub tally-again : (es fs : List (List ℕ × ℕ)) → tally (tally es ++ fs) ≡ tally (es ++ fs)
tally-again es fs = same_so_far (tally es) es fs (tally-table (tally es) (once-tally es))
