use Rattle.lexer.proofs.LexingLemmas.{one_cut}
use Rattle.lexer.proofs.one_lexing.Goals as goal

pub returns : goal.returns
returns c = one_cut
