use Rattle.std.proofs.lemmas.Grind.{common_steps}
use Rattle.std.proofs.Common.{arith, rules, refl, []}
use Rattle.std.specs.Str.{chars}
use Rattle.std.proofs.lemmas.Str.{chars-nil, encodes-chars}
use Rattle.smol_tokens_core.proofs.PieceLemmas.{lines-nil}
use Rattle.smol_tokens_core.proofs.FirstLineLemmas.{lines-one, lines-split, chars-newline}
use Rattle.smol_tokens_core.proofs.lines.first_line.Goals as goal

pub returns-then-is_empty-clause-cut : goal.returns-then-is_empty-clause-cut
returns-then-is_empty-clause-cut c = grind (arith, common_steps, chars-nil, lines-nil)

pub returns-in-Some-clause-cut : goal.returns-in-Some-clause-cut
returns-in-Some-clause-cut c =
    let at = (c.in-Some.ensures.found [] (chars c.args.text.now) refl refl c.in-Some.end).0 refl in
    lines-split c.args.text.now c.range.result.now c.range_from.result.now c.in-Some.end c.utf8.text
    (rw chars-newline at at) (search rules) (search rules)

pub returns-in-None-clause-cut : goal.returns-in-None-clause-cut
returns-in-None-clause-cut c = search (rules, chars-nil, lines-nil, lines-one, chars-newline, encodes-chars)
