use Rattle.smol_tokens_core.proofs.PieceLemmas.{lines-IsCut}
use Rattle.smol_tokens_core.proofs.LineLemmas.{joined-lines, HasNoNewline-lines, lines-ended}
use Rattle.smol_tokens_core.proofs.laws.lines_of_a_text.Goals as goal

pub returns : goal.returns
returns c =
    record { pieces = lines-IsCut; joined = joined-lines; no_newline = HasNoNewline-lines; read_back = lines-ended }
