use Rattle.std.proofs.Common.{rules}
use Rattle.std.specs.Str.{chars}
use Rattle.smol_str.proofs.CallerLemmas.{OnErr-always}
use Rattle.lexer.proofs.TokenLemmas.{Lexed-push, Lexed-some}
use Rattle.lexer.proofs.lex.Goals as goal

pub loop-token-preserved : goal.loop-token-preserved
loop-token-preserved c =
    let more = Lexed-push (chars c.args.source.now) c.loop-token.tokens.items (chars c.loop-token.rest.now)
    (chars c.in-Some.token.now) (chars c.in-Some.after.now) c.in_ok-new.field-0 c.loop-token.invariant.1
    c.in-Some.ensures.first c.in_ok-new.ensures.ok in
    (search rules, rw c.in_ok-push.ensures.items more)

pub returns-in_err-new-clause-refused : goal.returns-in_err-new-clause-refused
returns-in_err-new-clause-refused c =
    OnErr-always _ _ (Lexed-some _ _ _ _ _ c.loop-token.invariant.1 c.in-Some.ensures.first)

pub returns-in_err-push-clause-refused : goal.returns-in_err-push-clause-refused
returns-in_err-push-clause-refused c =
    OnErr-always _ _ (Lexed-some _ _ _ _ _ c.loop-token.invariant.1 c.in-Some.ensures.first)
