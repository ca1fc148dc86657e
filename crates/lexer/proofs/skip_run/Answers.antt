use Rattle.std.proofs.Common.{rules}
use Rattle.std.specs.Str.{chars}
use Rattle.lexer.proofs.TokenLemmas.{IsLeftIn-push}
use Rattle.lexer.proofs.skip_run.Goals as goal

pub loop-next-preserved : goal.loop-next-preserved
loop-next-preserved c =
    let run = IsLeftIn-push c.args.first c.in-Some.next (chars c.args.text.now) (chars c.loop-next.rest.now)
    (chars c.in-Some.after.now) c.loop-next.invariant.2 c.in-Some.ensures.whole (search rules) in
    (search rules, search rules, run)
