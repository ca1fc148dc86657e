-- For mode merge: count lines read and summed one after another, and what follows the last of them.
use Rattle.std.proofs.Common.{◌≡◌, ℕ, ◌+◌, ◌<◌, ◌≤◌, ◌^◌, List, [], ◌∷◌, ◌++◌, Bool, true, false, MatchBool, cond, length, ap, ◌∙◌, arith, rules, append_assoc, append-nil, length-append, bytes_eq}
use Rattle.std.specs.List.{flat_map}
use Rattle.std.specs.Str.{chars}
use Rattle.std.proofs.lemmas.Str.{chars-nil}
use Rattle.std.proofs.lemmas.List.Concat.{flat_map-append}
use Rattle.std.proofs.lemmas.List.Elements.{All-append}
use Rattle.std.proofs.lemmas.List.Sums.{sum_by-append}
use Rattle.smol_tokens_core.specs.Tally.{times_of, tally}
use Rattle.smol_tokens_core.specs.Counts.{count_line, IsEntry, IsCounts, IsMerge, BeginsWith, HasATokenTooOften}
use Rattle.smol_tokens_core.proofs.TallyLemmas.{same_from, bytes_eq_itself, by_same, times-cons}
use Rattle.smol_tokens_core.proofs.TableLemmas.{tally-again, times_of-tally}
use Rattle.smol_tokens_core.proofs.PartLemmas.{IsMerge-read}
use Rattle.smol_tokens_core.proofs.CountLemmas.{head, nothing, counts-begin}

-- n count lines were read, and summed as long as the sums fit
abbrev pub Summed : List ℕ → List ℕ → ℕ → Bool → List (List ℕ × ℕ) → Type 0
Summed t rest n fits sums =
    (pairs : List (List ℕ × ℕ)) × BeginsWith t pairs rest × (length pairs ≡ n)
    × MatchBool fits ((¬ HasATokenTooOften pairs) × (sums ≡ tally pairs)) (HasATokenTooOften pairs)

-- one count line more
begins-more : (t rest after : List ℕ) (es : List (List ℕ × ℕ)) (e : List ℕ × ℕ) → BeginsWith t es rest
    → BeginsWith rest (e ∷ []) after → BeginsWith t (es ++ e ∷ []) after
begins-more t rest after es e h k =
    let whole = append_assoc (flat_map count_line es) (flat_map count_line (e ∷ [])) after in
    (cc (h.0, k.0, flat_map-append count_line es (e ∷ []), whole), All-append IsEntry es (e ∷ []) h.1 k.1)

times-more : (u token : List ℕ) (n : ℕ) (es : List (List ℕ × ℕ))
    → times_of u (es ++ (token, n) ∷ []) ≡ times_of u es + cond (bytes_eq u token) n 0
times-more u token n es = search (rules, arith, sum_by-append, times-cons)

fits-more : (es : List (List ℕ × ℕ)) (token : List ℕ) (n : ℕ) → ¬ HasATokenTooOften es → times_of token es + n < 2 ^ 64
    → ¬ HasATokenTooOften (es ++ (token, n) ∷ [])
fits-more es token n fits below h =
    let more = times-more h.0 token n es in
    by_same h.0 token
    (λ same. omega (arith, h.1, more, below, ap (λ b. cond b n 0) same, ap (λ u. times_of u es) (same_from h.0 token same)))
    (λ other. fits (h.0, omega (arith, h.1, more, ap (λ b. cond b n 0) other)))

module _ (t rest after token : List ℕ) (n count : ℕ) (line : BeginsWith rest ((token, count) ∷ []) after) where
  more : (fits : Bool) (sums es : List (List ℕ × ℕ)) → BeginsWith t es rest → length es ≡ n
      → MatchBool fits ((¬ HasATokenTooOften (es ++ (token, count) ∷ [])) × (sums ≡ tally (es ++ (token, count) ∷ [])))
      (HasATokenTooOften (es ++ (token, count) ∷ []))
      → Summed t after (n + 1) fits sums
  more fits sums es h len sum =
      let longer = length-append es ((token, count) ∷ []) in
      (_, begins-more t rest after es (token, count) h line, omega (arith, len, longer), sum)

  -- by what `add_text` says
  pub summed-more : (sums new : List (List ℕ × ℕ)) (fits : Bool) → Summed t rest n true sums
      → MatchBool fits ((new ≡ tally (sums ++ (token, count) ∷ [])) × (times_of token sums + count < 2 ^ 64))
      (2 ^ 64 ≤ times_of token sums + count)
      → Summed t after (n + 1) fits new
  summed-more sums new true h (is, below) =
      more true new h.0 h.1 h.2 (
        fits-more h.0 token count h.3.0 (rw (h.3.1, times_of-tally token h.0) at below),
        is ∙ ap (λ s. tally (s ++ (token, count) ∷ [])) h.3.1 ∙ tally-again h.0 ((token, count) ∷ []),
      )
  summed-more sums new false h full =
      let own = ap (λ b. cond b count 0) (bytes_eq_itself token) in
      let above : 2 ^ 64 ≤ times_of token h.0 + count = rw (h.3.1, times_of-tally token h.0) at full in
      more false new h.0 h.1 h.2 (token, omega (arith, above, times-more token token count h.0, own))

  pub summed-on : (sums : List (List ℕ × ℕ)) → Summed t rest n false sums → Summed t after (n + 1) false sums
  summed-on sums h = more false sums h.0 h.1 h.2 (h.3.0, omega (arith, h.3.1, times-more h.3.0 token count h.0))

some_counts : (t : List ℕ) (es : List (List ℕ × ℕ)) → IsCounts t es → 0 < length (tally es) → 0 < length t
some_counts t [] is some = absurd (omega arith)
some_counts [] (e ∷ es) is some = absurd (nothing e _ (head [] [] e es (counts-begin [] (e ∷ es) is)))
some_counts (c ∷ t) (e ∷ es) is some = omega arith

-- nothing is left
whole : (t : List ℕ) (es : List (List ℕ × ℕ)) → BeginsWith t es (chars []) → IsCounts t es
whole t es h = (rw chars-nil at h.0 ∙ append-nil (flat_map count_line es), h.1)

pub summed-all : (t bs : List ℕ) (n : ℕ) (fits : Bool) (sums : List (List ℕ × ℕ)) → Summed t (chars bs) n fits sums
    → length bs ≡ 0
    → MatchBool fits (IsMerge t (flat_map count_line sums) × (0 < length sums → 0 < length t))
    ((pairs : List (List ℕ × ℕ)) × IsCounts t pairs × HasATokenTooOften pairs)
summed-all t (b ∷ bs) n fits sums h none = absurd (omega arith)
summed-all t [] n true sums h none =
    let read = whole t h.0 h.1 in rw h.3.1 (IsMerge-read t h.0 read h.3.0, some_counts t h.0 read)
summed-all t [] n false sums h none = (h.0, whole t h.0 h.1, h.3)
