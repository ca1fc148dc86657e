use Rattle.smol_str.proofs.Common.{◌-◌, length, arith}
use Rattle.smol_str.proofs.CutLemmas.Near.{found-last}
use Rattle.smol_str.proofs.bytes.search.two_in_ends.Goals as goal

pub returns : goal.returns
returns g c =
    found-last c.args.bytes.now c.args.needle.now c.requires.two g.row.N (length c.args.bytes.now - g.row.N - 1) g.row.N
    (omega (arith, c.requires.least)) (omega (arith, c.requires.most)) (λ k low high. c.in_default.ensures k low (omega (arith, high))) _
    c.two_in_lanes-2.ensures
