use Rattle.smol_str.proofs.CutLemmas.Cut.{first-shortest}
use Rattle.smol_str.proofs.laws.first_match.Goals as goal

pub returns : goal.returns
returns c = first-shortest
