use Rattle.std.proofs.lemmas.Grind.{common_steps}
use Rattle.std.proofs.Common.{arith}
use Rattle.std.specs.Str.{chars}
use Rattle.smol_str.proofs.CallerLemmas.{OnErr-always}
use Rattle.smol_tokens_core.proofs.ReportLemmas.{report_line-value, report-last}
use Rattle.smol_tokens_core.proofs.TokenLemmas.{lines-seen, some_text}
use Rattle.smol_tokens_core.proofs.report.report_lines.Goals as goal

pub loop-line-preserved : goal.loop-line-preserved
loop-line-preserved c = grind (arith, common_steps, report_line-value, lines-seen, report-last)

pub returns-in_err-mapped_value-clause-refused : goal.returns-in_err-mapped_value-clause-refused
returns-in_err-mapped_value-clause-refused c =
    OnErr-always c.from_residual.result _
    (some_text (chars c.args.text.now) _ _ _ _ c.loop-line.invariant.1 c.in-Some.ensures.steps)

pub returns-in_err-push_line-clause-refused : goal.returns-in_err-push_line-clause-refused
returns-in_err-push_line-clause-refused c =
    OnErr-always c.from_residual-in_err-push_line.result _
    (some_text (chars c.args.text.now) _ _ _ _ c.loop-line.invariant.1 c.in-Some.ensures.steps)
