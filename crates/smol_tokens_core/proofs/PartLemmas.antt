-- For the laws of parts: the lines, the tally and the report of a text by those of its parts, and merges of merges.
use Rattle.std.proofs.Common.{◌≡◌, ℕ, ◌<◌, ◌≤◌, ◌==◌, ◌^◌, List, [], ◌∷◌, ◌++◌, Bool, cond, length, get_or, refl, sym, ◌∙◌, arith, rules, inl, inr, bytes_eq}
use Rattle.std.specs.Prelude.{All, count_by, ◌↔◌}
use Rattle.std.specs.List.{flat_map, onto_first}
use Rattle.std.proofs.lemmas.List.{map-append}
use Rattle.std.proofs.lemmas.List.Elements.{All-nil, All-cons, All-head, All-tail, All-filter, All-map}
use Rattle.std.proofs.lemmas.List.Sums.{sum_by-append}
use Rattle.smol_tokens_core.specs.Lines.{newline, lines, HasNoNewline}
use Rattle.smol_tokens_core.specs.Tally.{tokens, times_of, first_sights, tally, seen_once}
use Rattle.smol_tokens_core.specs.Report.{tokens_report}
use Rattle.smol_tokens_core.specs.ReportFaults.{HasALineTooOften}
use Rattle.smol_tokens_core.specs.Counts.{count_line, IsEntry, IsCounts, IsMerge, IsWhole, HasATokenTooOften}
use Rattle.smol_tokens_core.proofs.LineLemmas.{HasNoNewline-lines}
use Rattle.smol_tokens_core.proofs.PieceLemmas.{lines-nil, lines-cons}
use Rattle.smol_tokens_core.proofs.TallyLemmas.{tally-cons, once-tally}
use Rattle.smol_tokens_core.proofs.TableLemmas.{tally-table, tally-again, times_of-tally}
use Rattle.smol_tokens_core.proofs.TokenLemmas.{times_of-seen_once}
use Rattle.smol_tokens_core.proofs.CountLemmas.{IsMerge-of, IsCounts-append}

-- a character goes to the first line, where there is one
onto : (c : ℕ) (b : Bool) (ps qs : List (List ℕ)) → 0 < length ps
    → (cond b ([] ∷ (ps ++ qs)) (onto_first c (ps ++ qs)) ≡ cond b ([] ∷ ps) (onto_first c ps) ++ qs)
    × (0 < length (cond b ([] ∷ ps) (onto_first c ps)))
onto c b [] qs some = absurd (omega arith)
onto c b (p ∷ ps) qs some = search (rules, arith)

lines-front : (t u : List ℕ)
    → (lines ((t ++ newline) ++ u) ≡ lines (t ++ newline) ++ lines u) × (0 < length (lines (t ++ newline)))
lines-front [] u = rw (lines-cons 10 u, lines-cons 10 [], lines-nil) (refl, omega arith)
lines-front (c ∷ t) u =
    let rest = lines-front t u in
    rw (lines-cons c ((t ++ newline) ++ u), lines-cons c (t ++ newline), rest.0)
    (onto c (c == 10) (lines (t ++ newline)) (lines u) rest.1)

pub lines-parts : (a b : List ℕ) → IsWhole a → lines (a ++ b) ≡ lines a ++ lines b
lines-parts a b (inl e) = rw (e, lines-nil) refl
lines-parts a b (inr (t, e)) = rw e (lines-front t b).0

-- a tally may replace its pairs anywhere
tally-behind : (es fs : List (List ℕ × ℕ)) → tally (es ++ tally fs) ≡ tally (es ++ fs)
tally-behind [] fs = tally-table (tally fs) (once-tally fs)
tally-behind (e ∷ es) fs =
    let times = λ (more : List (List ℕ × ℕ)). times_of-tally e.0 (es ++ more) in
    cc (tally-cons e (es ++ tally fs), tally-cons e (es ++ fs), tally-behind es fs, times (tally fs), times fs)

pub tally-parts : (es fs : List (List ℕ × ℕ)) → tally (tally es ++ tally fs) ≡ tally (es ++ fs)
tally-parts es fs = tally-again es (tally fs) ∙ tally-behind es fs

pub tally-lines : (a b : List ℕ) → IsWhole a
    → tally (seen_once (lines (a ++ b))) ≡ tally (tally (seen_once (lines a)) ++ tally (seen_once (lines b)))
tally-lines a b whole =
    rw (lines-parts a b whole, map-append {B = List ℕ × ℕ} (λ t. (t, 1)) (lines a) (lines b))
    (sym (tally-parts (seen_once (lines a)) (seen_once (lines b))))

-- the times in the tallies of two parts are how often a line occurs in both
times-parts : (a b t : List ℕ) → IsWhole a
    → times_of t (tally (seen_once (lines a)) ++ tally (seen_once (lines b))) ≡ count_by (bytes_eq t) (lines (a ++ b))
times-parts a b t whole = grind (arith, tally-lines a b whole, times_of-tally, times_of-seen_once)

pub full-parts : (a b : List ℕ) → IsWhole a
    → HasATokenTooOften (tally (seen_once (lines a)) ++ tally (seen_once (lines b))) ↔ HasALineTooOften (a ++ b)
full-parts a b whole =
    (λ h. (h.0, rw (← times-parts a b h.0 whole) h.1), λ h. (h.0, rw (times-parts a b h.0 whole) h.1))

-- what holds of all texts holds of their first sights
first_sights-All : (P : List ℕ → Type 0) (ts : List (List ℕ)) → All P ts → All P (first_sights ts)
first_sights-All P [] h = All-nil P
first_sights-All P (t ∷ ts) h = search (rules, All-cons, All-head, All-filter, first_sights-All P ts (All-tail P t ts h))

-- a tally of lines can be written, where no sum is out of range
pub tally-entries : (es : List (List ℕ × ℕ)) → ¬ HasATokenTooOften es → All (λ e. HasNoNewline e.0) es → All IsEntry (tally es)
tally-entries es fits h =
    All-map IsEntry (λ t. (t, times_of t es)) (first_sights (tokens es)) (λ k d l.
    let u : List ℕ = get_or (first_sights (tokens es)) k d in
    let below : ¬ (2 ^ 64 ≤ times_of u es) = λ above. fits (u, above) in
    (first_sights-All HasNoNewline (tokens es) (All-map HasNoNewline (λ (e : List ℕ × ℕ). e.0) es h) k d l, omega arith))

pub reports-read : (t : List ℕ) → ¬ HasALineTooOften t → IsCounts (tokens_report t) (tally (seen_once (lines t)))
reports-read t fits = (
  refl,
  tally-entries (seen_once (lines t)) (λ h. fits (h.0, rw (← times_of-seen_once h.0 (lines t)) h.1))
      (All-map (λ (e : List ℕ × ℕ). HasNoNewline e.0) (λ line. (line, 1)) (lines t) (HasNoNewline-lines t)),
)

pub reports-both : (a b : List ℕ) → IsWhole a → ¬ HasALineTooOften (a ++ b)
    → IsCounts (tokens_report a ++ tokens_report b) (tally (seen_once (lines a)) ++ tally (seen_once (lines b)))
reports-both a b whole fits =
    let sum = λ (line : List ℕ). sum_by-append (λ u. cond (bytes_eq line u) 1 0) (lines a) (lines b) in
    IsCounts-append (tokens_report a) (tokens_report b) (tally (seen_once (lines a))) (tally (seen_once (lines b)))
    (reports-read a (λ h. fits (h.0, rw (lines-parts a b whole) (omega (arith, h.1, sum h.0)))))
    (reports-read b (λ h. fits (h.0, rw (lines-parts a b whole) (omega (arith, h.1, sum h.0)))))

pub reports-merged : (a b : List ℕ) → IsWhole a → ¬ HasALineTooOften (a ++ b)
    → IsMerge (tokens_report a ++ tokens_report b) (tokens_report (a ++ b))
reports-merged a b whole fits =
    (_, reports-both a b whole fits, rw (← tally-lines a b whole) (reports-read (a ++ b) fits))

-- merges of merges
pub IsMerge-read : (t : List ℕ) (es : List (List ℕ × ℕ)) → IsCounts t es → ¬ HasATokenTooOften es
    → IsMerge t (flat_map count_line (tally es))
IsMerge-read t es is fits = (es, is, (refl, tally-entries es fits (λ k d l. (is.1 k d l).0)))

pub merged-again : (a b x y out : List ℕ) → IsMerge a x → IsMerge b y → IsMerge (x ++ y) out ↔ IsMerge (a ++ b) out
merged-again a b x y out h k =
    let sums = IsMerge-of (x ++ y) out _ (IsCounts-append x y (tally h.0) (tally k.0) h.2 k.2) in
    let all = IsMerge-of (a ++ b) out _ (IsCounts-append a b h.0 k.0 h.1 k.1) in
    let same = rw (tally-parts h.0 k.0) at sums in (λ m. all.1 (same.0 m), λ m. same.1 (all.0 m))
