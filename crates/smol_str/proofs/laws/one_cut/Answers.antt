use Rattle.smol_str.proofs.Common.{cut}
use Rattle.smol_str.proofs.CutLemmas.Cut.{IsCut-cut, IsCut-unique}
use Rattle.smol_str.proofs.CutLemmas.Replace.{replaced-itself}
use Rattle.smol_str.proofs.laws.one_cut.Goals as goal

pub returns : goal.returns
returns c = record { exists = λ t p n. (cut t p n, IsCut-cut t p n); unique = IsCut-unique; computed = IsCut-cut; joined = replaced-itself }
