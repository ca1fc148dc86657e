use Rattle.smol_tokens_core.proofs.PieceLemmas.{lines-pieces}
use Rattle.smol_tokens_core.proofs.laws.lines_are_pieces.Goals as goal

pub returns : goal.returns
returns c = lines-pieces
