use Rattle.smol_str.proofs.CaseLemmas.Ascii.{front-append, front-parts}
use Rattle.smol_str.proofs.laws.ascii_front.Goals as goal

pub returns : goal.returns
returns c = record { longest = front-append; parts = front-parts }
