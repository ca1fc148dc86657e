-- For the merge of the reports on two parts of a text: what it writes, and which faults it has not.
use Rattle.std.proofs.Common.{◌≡◌, ℕ, List, ◌++◌, inl, inr, sym, subst}
use Rattle.smol_tokens_core.specs.declared.mode.Mode.TheVariants.{Merge}
use Rattle.smol_tokens_core.specs.Lines.{lines}
use Rattle.smol_tokens_core.specs.Tally.{tally, seen_once}
use Rattle.smol_tokens_core.specs.Report.{tokens_report}
use Rattle.smol_tokens_core.specs.ReportFaults.{HasALineTooOften, CountsTooFar}
use Rattle.smol_tokens_core.specs.Counts.{IsCounts, IsMerge, IsWhole, IsFirstOther, HasATokenTooOften}
use Rattle.smol_tokens_core.proofs.CountLemmas.{IsCounts-once, IsMerge-once, not_counts}
use Rattle.smol_tokens_core.proofs.PartLemmas.{reports-both, reports-merged, full-parts}

module _ (a b t : List ℕ) (whole : IsWhole a) (fits : ¬ HasALineTooOften (a ++ b)) (is : t ≡ tokens_report a ++ tokens_report b) where
  -- what the two reports count
  abbrev sums : List (List ℕ × ℕ)
  sums = tally (seen_once (lines a)) ++ tally (seen_once (lines b))

  both : IsCounts t sums
  both = subst (λ text. IsCounts text sums) (sym is) (reports-both a b whole fits)

  pub merged-whole : (report : List ℕ) → IsMerge t report → report ≡ tokens_report (a ++ b)
  merged-whole report merge = IsMerge-once t report (tokens_report (a ++ b)) merge (rw is (reports-merged a b whole fits))

  pub not-other : (n : ℕ) → ¬ IsFirstOther t n
  not-other n other = not_counts t n sums other both

  pub not-full : ¬ CountsTooFar Merge t
  not-full (inl tokens) = absurd (cc (tokens.0))
  not-full (inr (merge, (pairs, read, often))) =
      fits ((full-parts a b whole).0 (subst HasATokenTooOften (IsCounts-once t pairs sums read both) often))
