-- For `tally_lines`: lines counted one after another, and what a count that is full says of all lines.
use Rattle.std.proofs.lemmas.Grind.{common_steps}
use Rattle.std.proofs.Common.{get_or, ◌≡◌, ℕ, ◌+◌, ◌<◌, ◌≤◌, ◌^◌, length, List, [], ◌∷◌, ◌++◌, cond, map, All, refl, ap, ◌∙◌, arith, rules, bytes_eq}
use Rattle.std.specs.Prelude.{count_by}
use Rattle.std.proofs.lemmas.List.{map-append, append_assoc, length-append}
use Rattle.std.proofs.lemmas.Map.Entries.{All-lookup}
use Rattle.std.proofs.lemmas.List.Sums.{sum_by-cons, sum_by-append}
use Rattle.smol_tokens_core.specs.Lines.{lines}
use Rattle.smol_tokens_core.specs.Tally.{times_of, tally, seen_once}
use Rattle.smol_tokens_core.specs.ReportFaults.{HasALineTooOften}
use Rattle.smol_tokens_core.proofs.PieceLemmas.{lines-nil}
use Rattle.smol_tokens_core.proofs.TableLemmas.{lookup-tally, tally-again, times_of-tally}
use Rattle.smol_tokens_core.proofs.TallyLemmas.{bytes_eq_itself, counts-tally}

-- of texts that were seen once each, the times are how often a text occurs
pub times_of-seen_once : (t : List ℕ) (texts : List (List ℕ))
    → times_of t (seen_once texts) ≡ count_by (bytes_eq t) texts
times_of-seen_once t [] = refl
times_of-seen_once t (u ∷ us) = search (rules, sum_by-cons, times_of-seen_once t us)

-- one text more
pub tally-seen : {A : Type 0} (f : A → List ℕ) (seen : List A) (x : A) (t : List ℕ) (old new : List (List ℕ × ℕ))
    → old ≡ tally (seen_once (map f seen)) → t ≡ f x → new ≡ tally (old ++ (t, 1) ∷ [])
    → new ≡ tally (seen_once (map f (seen ++ x ∷ [])))
tally-seen f seen x t old new so_far same added = search (rules, arith, tally-again, map-append)

pub lines-seen : {A X : Type 0} (f : A → X) (seen : List A) (x : A) (all left rest : List X)
    → all ≡ map f seen ++ left → left ≡ f x ∷ rest → all ≡ map f (seen ++ x ∷ []) ++ rest
lines-seen f seen x all left rest is next = search (rules, arith, map-append, append_assoc)

-- a text that has a line is not empty
pub some_text : (t : List ℕ) (seen left rest : List (List ℕ)) (line : List ℕ) → lines t ≡ seen ++ left
    → left ≡ line ∷ rest → 0 < length t
some_text [] seen left rest line is next = grind (arith, lines-nil, ap length is, length-append {A = List ℕ})
some_text (c ∷ cs) seen left rest line is next = omega arith

-- and so is one whose lines have a count
pub some_counts : (t : List ℕ) (counts : List (List ℕ × ℕ)) → counts ≡ tally (seen_once (lines t)) → 0 < length counts
    → 0 < length t
some_counts text counts is some = grind (arith, common_steps, lines-nil)

-- the lines so far with the one that was not counted are a front of the lines
pub no_report-add : (t line : List ℕ) (seen rest left : List (List ℕ)) (old : List (List ℕ × ℕ))
    → old ≡ tally (seen_once seen) → lines t ≡ seen ++ left → left ≡ line ∷ rest → 2 ^ 64 ≤ times_of line old + 1
    → HasALineTooOften t
no_report-add t line seen rest left old so_far is next full =
    let before = times_of-tally line (seen_once seen) ∙ times_of-seen_once line seen in
    let worth : List ℕ → ℕ = λ u. cond (bytes_eq line u) 1 0 in
    (line, grind (arith, before, bytes_eq_itself line, sum_by-append worth seen left, sum_by-cons worth line rest))

-- the counts of all lines are `u64`s, exactly where no line occurs too often
pub no_line_too_often : (t : List ℕ) → All (λ e. e.1 < 2 ^ 64) (tally (seen_once (lines t))) → ¬ HasALineTooOften t
no_line_too_often t fit h =
    let below = All-lookup (λ n. n < 2 ^ 64) (bytes_eq h.0) (tally (seen_once (lines t))) fit in
    grind (arith, below, lookup-tally (seen_once (lines t)) h.0, times_of-seen_once h.0 (lines t))

pub counts_fit : (t : List ℕ) → ¬ HasALineTooOften t → All (λ e. e.1 < 2 ^ 64) (tally (seen_once (lines t)))
counts_fit t none k d l =
    let e : List ℕ × ℕ = get_or (tally (seen_once (lines t))) k d in
    let below : ¬ (2 ^ 64 ≤ count_by (bytes_eq e.0) (lines t)) = λ above. none (e.0, above) in
    omega (arith, counts-tally (seen_once (lines t)) k d l, times_of-seen_once e.0 (lines t))
