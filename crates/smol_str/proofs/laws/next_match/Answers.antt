use Rattle.smol_str.proofs.CutLemmas.Match.{one_next}
use Rattle.smol_str.proofs.laws.next_match.Goals as goal

pub returns-clause-one : goal.returns-clause-one
returns-clause-one c = one_next
