use Rattle.smol_str.proofs.Common.{◌≡◌, ◌-◌, length, ◌∙◌, sym, ap, not, false≢true, arith, rules, bytes_decides, blank_run}
use Rattle.smol_str.proofs.TextLemmas.Blank.{Passes-from_IsBlankRun, reads-run}
use Rattle.smol_str.proofs.value.blank.find_blank.Goals as goal

pub returns-then-newlines-gt-BLANK_NEWLINES-clause-run :
    goal.returns-then-newlines-gt-BLANK_NEWLINES-clause-run
returns-then-newlines-gt-BLANK_NEWLINES-clause-run c run = search (rules, arith, Passes-from_IsBlankRun)

pub returns-then-ne-clause-run : goal.returns-then-ne-clause-run
returns-then-ne-clause-run c run =
    let text = c.args.text.now in
    let n = c.count_leading_newlines-newlines.result in
    let whole : text ≡ c.blank_text-run.result.now = cc (reads-run text run) in
    false≢true (sym (sym c.if-ne.true ∙ c.ne.ensures ∙ ap not ((bytes_decides _ _).1 whole)))

pub returns-clause-run : goal.returns-clause-run
returns-clause-run c =
    let n = c.count_leading_newlines-newlines.result in
    let s = length c.args.text.now - n in
    let reads : c.blank_text-run.result.now ≡ blank_run n s = cc in
    search (rules, arith, reads)
