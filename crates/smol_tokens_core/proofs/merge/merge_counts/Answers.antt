use Rattle.std.proofs.Common.{inr}
use Rattle.std.specs.Str.{chars}
use Rattle.smol_tokens_core.proofs.FaultLemmas.{no_report-refused}
use Rattle.smol_tokens_core.proofs.merge.merge_counts.Goals as goal

pub returns-in_err-write_counts-clause-fault : goal.returns-in_err-write_counts-clause-fault
returns-in_err-write_counts-clause-fault g c =
    no_report-refused _ _ (chars c.args.text.now) c.from_residual-in_err-write_counts.ensures.1
    (inr (c.in_ok-tally.ensures.some c.in_err-write_counts.ensures.refused))
