-- For the laws of tallies: whether two texts are one, each text once, and a tally with one entry more in front.
use Rattle.std.proofs.Common.{◌≡◌, ◌≢◌, ℕ, ◌+◌, List, [], ◌∷◌, ◌++◌, true, false, cond, map, refl, ap, ⊎_elim, arith, rules, bytes_eq}
use Rattle.std.specs.Prelude.{not, filter, All}
use Rattle.std.specs.List.{AllPairs}
use Rattle.std.proofs.lemmas.Bool.{cases_Bool, false_from_ne_true, false≢true, not-true}
use Rattle.std.proofs.lemmas.Slice.Eq.{bytes_eq-Decides}
use Rattle.std.proofs.lemmas.List.{map-append}
use Rattle.std.proofs.lemmas.List.Sums.{sum_by-cons}
use Rattle.std.proofs.lemmas.List.Elements.{filter-append, filter_passes, All-map, All-weaker}
use Rattle.std.proofs.lemmas.List.Kept.{AllPairs-cons, AllPairs-filter}
use Rattle.smol_str.proofs.CallerLemmas.{bytes_eq-apart}
use Rattle.smol_tokens_core.specs.Tally.{tokens, times_of, without, first_sights, tally}

pub same_from : (s t : List ℕ) → bytes_eq s t ≡ true → s ≡ t
same_from s t e = (bytes_eq-Decides s t).0 e

pub bytes_eq_itself : (t : List ℕ) → bytes_eq t t ≡ true
bytes_eq_itself t = (bytes_eq-Decides t t).1 refl

-- by whether two texts are one
pub by_same : {P : Type 0} (s t : List ℕ) → (bytes_eq s t ≡ true → P) → (bytes_eq s t ≡ false → P) → P
by_same s t same other = ⊎_elim same other (cases_Bool (bytes_eq s t))

pub other_from : (s t : List ℕ) → s ≢ t → bytes_eq s t ≡ false
other_from s t ne = search (rules, false_from_ne_true, same_from)

differ : (s t : List ℕ) → bytes_eq s t ≡ false → s ≢ t
differ s t e same = search (rules, bytes_eq-Decides, false≢true)

-- no text occurs twice
sights_once : (ts : List (List ℕ)) → AllPairs (λ s t. s ≢ t) (first_sights ts)
sights_once [] = search (rules, arith)
sights_once (t ∷ ts) =
    AllPairs-cons (λ s u. s ≢ u) t (without t (first_sights ts))
    (search (rules, arith, All-weaker, filter_passes, not-true, differ))
    (AllPairs-filter (λ s u. s ≢ u) (λ u. not (bytes_eq t u)) (first_sights ts) (sights_once ts))

-- the first sights of a list come first, in their order, in those of a longer one
sights-longer : (ts us : List (List ℕ))
    → (more : List (List ℕ)) × (first_sights (ts ++ us) ≡ first_sights ts ++ more)
sights-longer [] us = (first_sights us, refl)
sights-longer (t ∷ ts) us =
    let rest = sights-longer ts us in (without t rest.0, search (rules, arith, rest.1, filter-append))

-- what a pair adds to the times of a text
pub times-cons : (t : List ℕ) (e : List ℕ × ℕ) (es : List (List ℕ × ℕ))
    → times_of t (e ∷ es) ≡ cond (bytes_eq t e.0) e.1 0 + times_of t es
times-cons t e es = sum_by-cons (λ e. cond (bytes_eq t e.0) e.1 0) e es

-- the entries of other tokens
abbrev pub without_token : List ℕ → List (List ℕ × ℕ) → List (List ℕ × ℕ)
without_token t es = filter (λ e. not (bytes_eq t e.0)) es

-- the first token has its entry, and the others those of the rest
others_counted : (e : List ℕ × ℕ) (es : List (List ℕ × ℕ)) (us : List (List ℕ))
    → map (λ u. (u, times_of u (e ∷ es))) (without e.0 us) ≡ without_token e.0 (map (λ u. (u, times_of u es)) us)
others_counted e es [] = refl
others_counted e es (u ∷ us) = search (rules, arith, by_same, times-cons, bytes_eq-apart, others_counted e es us)

pub tally-cons : (e : List ℕ × ℕ) (es : List (List ℕ × ℕ))
    → tally (e ∷ es) ≡ (e.0, e.1 + times_of e.0 es) ∷ without_token e.0 (tally es)
tally-cons e es = search (rules, times-cons, bytes_eq_itself, others_counted)

pub counts-tally : (es : List (List ℕ × ℕ)) → All (λ e. e.1 ≡ times_of e.0 es) (tally es)
counts-tally es =
    All-map (λ e. e.1 ≡ times_of e.0 es) (λ t. (t, times_of t es)) (first_sights (tokens es)) (λ k d l. refl)

tokens_again : (es : List (List ℕ × ℕ)) (us : List (List ℕ)) → tokens (map (λ u. (u, times_of u es)) us) ≡ us
tokens_again es [] = refl
tokens_again es (u ∷ us) = ap (λ s. u ∷ s) (tokens_again es us)

-- no token occurs twice
pub once-tally : (es : List (List ℕ × ℕ)) → AllPairs (λ s t. s ≢ t) (tokens (tally es))
once-tally es = rw (tokens_again es (first_sights (tokens es))) (sights_once (tokens es))

-- the tokens of a longer list begin with those of the shorter
pub tokens-longer : (es fs : List (List ℕ × ℕ))
    → (more : List (List ℕ)) × (tokens (tally (es ++ fs)) ≡ tokens (tally es) ++ more)
tokens-longer es fs = simp (tokens_again, map-append) (sights-longer (tokens es) (tokens fs))
