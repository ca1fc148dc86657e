use Rattle.std.proofs.Common.{refl, ℕ, Ok}
use Rattle.std.specs.Str.{chars}
use Rattle.std.proofs.lemmas.List.Concat.{concat_is}
use Rattle.std.proofs.lemmas.Iterator.Consumers.{YieldsList-from_first}
use Rattle.smol_str.proofs.CallerLemmas.{texts_collected}
use Rattle.smol_tokens_core.specs.Lines.{lines}
use Rattle.smol_tokens_core.proofs.ReportLemmas.{report_line-value}
use Rattle.smol_tokens_core.proofs.report.join.Goals as goal

pub returns : goal.returns
returns c =
    let gives = YieldsList-from_first (λ line. chars line.now) (λ s. lines (chars s)) (lines (chars c.args.text.now))
    (rw c.of.ensures refl) in
    let joined = texts_collected {E = ℕ} _ refl _ (Ok c.in_ok-value.value) c.in_ok-value.ensures.ok (λ y. refl) gives in
    let is = rw (← concat_is) at joined in
    rw (c.new-out.ensures.bytes, report_line-value _ c.in_ok-value.value is) at c.in_ok-push_line.ensures
