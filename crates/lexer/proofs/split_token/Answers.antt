use Rattle.lexer.proofs.TokenLemmas.{boundary, first-token}
use Rattle.lexer.proofs.split_token.Goals as goal

pub split_at-requires : goal.split_at-requires
split_at-requires c =
    boundary c.args.text.now c.in_ok-first.rest.now c.skip_run-after.result.now c.in_ok-first.first c.utf8.text
    c.skip_run-after.utf8 c.in_ok-first.ensures.whole c.skip_run-after.ensures.left

pub returns-clause-first : goal.returns-clause-first
returns-clause-first c =
    first-token c.args.text.now c.in_ok-first.rest.now c.skip_run-after.result.now c.in_ok-first.first c.utf8.text
    c.skip_run-after.utf8 c.in_ok-first.ensures.whole c.skip_run-after.ensures.left
    c.split_at.result.0.now c.split_at.result.1.now c.split_at.ensures.front c.split_at.ensures.back
