use Rattle.std.proofs.Common.{map, take, chars}
use Rattle.smol_str.specs.Meaning.{ArePairsOf}
use Rattle.uses_cutting.proofs.pairs_of.Given as goal

abbrev pub invariant-loop-pair : goal.invariant-loop-pair
invariant-loop-pair l = ArePairsOf (map (λ p. (chars p.0.now, chars p.1.now)) (take l.pair-index l.pairs)) l.values.items
