use Rattle.smol_tokens_core.proofs.ReportLemmas.{printed, encodes-report_line}
use Rattle.std.proofs.Common.{rules}
use Rattle.std.proofs.lemmas.Result.{on_ok_weaker}
use Rattle.smol_tokens_core.proofs.report.print_line.Goals as goal

pub returns : goal.returns
returns c =
    let wrote = on_ok_weaker c.write_fmt.result (λ w. printed _ _ _ w) c.write_fmt.ensures.writes in
    search (rules, wrote, encodes-report_line)
