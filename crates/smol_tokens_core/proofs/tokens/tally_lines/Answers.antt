use Rattle.std.proofs.Common.{refl, inl, inr}
use Rattle.std.specs.Str.{chars}
use Rattle.std.proofs.lemmas.Bool.{MatchBool-at_true, MatchBool-at_false}
use Rattle.smol_tokens_core.proofs.FaultLemmas.{no_report-refused}
use Rattle.smol_tokens_core.proofs.TokenLemmas.{tally-seen, lines-seen, some_text, no_report-add}
use Rattle.smol_tokens_core.proofs.tokens.tally_lines.Goals as goal

pub loop-line-preserved : goal.loop-line-preserved
loop-line-preserved g c =
    let added = MatchBool-at_true _ _ c.if-not-branch.false c.in_ok-add_text.ensures in (
      tally-seen (λ line. chars line.now) _ _ _ _ _ c.loop-line.invariant.0 refl added.0,
      lines-seen (λ line. chars line.now) _ _ _ _ _ c.loop-line.invariant.1 c.in-Some.ensures.steps,
    )

pub returns-then-not-branch-clause-fault : goal.returns-then-not-branch-clause-fault
returns-then-not-branch-clause-fault g c =
    let full = MatchBool-at_false _ _ c.if-not-branch.true c.in_ok-add_text.ensures in
    let so_far = c.loop-line.invariant in
    inl (refl, no_report-add _ (chars c.in-Some.line.now) _ _ _ _ so_far.0 so_far.1 c.in-Some.ensures.steps full)

pub returns-in_err-add_text-clause-fault : goal.returns-in_err-add_text-clause-fault
returns-in_err-add_text-clause-fault g c =
    no_report-refused _ _ (chars c.args.text.now) c.from_residual.ensures.1
    (inr (some_text (chars c.args.text.now) _ _ _ _ c.loop-line.invariant.1 c.in-Some.ensures.steps))
