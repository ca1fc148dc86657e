use Rattle.std.proofs.Common.{ℕ, List, [], ◌∷◌, ap}
use Rattle.std.proofs.lemmas.List.{map-append}
use Rattle.smol_tokens_core.specs.Counts.{count_line}
use Rattle.smol_tokens_core.specs.Tally.{by_text}
use Rattle.smol_tokens_core.proofs.ReportLemmas.{report-last}
use Rattle.smol_tokens_core.proofs.TokenLemmas.{lines-seen}
use Rattle.smol_tokens_core.proofs.tokens.write_counts.Goals as goal

pub loop-token-preserved : goal.loop-token-preserved
loop-token-preserved g c =
    let entry : List ℕ × ℕ = (c.in-Some.token.now.text, c.in-Some.count.now) in
    let seen = c.loop-token.invariant in
    let out = report-last count_line _ entry _ _ seen.0 c.in_ok-push_count.ensures in (
      rw (← map-append {B = List ℕ × ℕ} (λ e. (e.0.now.text, e.1.now)) c.loop-token.yielded ((c.in-Some.token, c.in-Some.count) ∷ [])) at out,
      lines-seen {X = List ℕ × ℕ} (λ e. (e.0.now.text, e.1.now)) _ _ _ _ _ seen.1 (ap by_text c.in-Some.ensures.steps),
    )
