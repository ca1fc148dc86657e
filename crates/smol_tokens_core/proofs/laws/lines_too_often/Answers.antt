use Rattle.smol_tokens_core.proofs.TokenLemmas.{counts_fit, no_line_too_often}
use Rattle.smol_tokens_core.proofs.laws.lines_too_often.Goals as goal

pub returns : goal.returns
returns c = λ t. (no_line_too_often t, counts_fit t)
