use Rattle.std.proofs.Common.{rules, arith}
use Rattle.smol_str.specs.Text.{size}
use Rattle.smol_str.specs.declared.value.place.Place.TheVariants.{Inline}
use Rattle.smol_tokens_core.proofs.ReportLemmas.{encodes-report_line}
use Rattle.smol_tokens_core.proofs.report.push_inline.Goals as goal

pub returns : goal.returns
returns c =
    let t = c.args.value.now.text in rw (encodes-report_line Inline (size t) t (omega arith)) (search rules)
