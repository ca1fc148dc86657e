use Rattle.std.proofs.Common.{◌≡◌, take}
use Rattle.smol_str.specs.Meaning.{texts}
use Rattle.uses_maps.proofs.paths.common_front.Given as goal

abbrev pub invariant-loop-at : goal.invariant-loop-at
invariant-loop-at l = take l.at (texts l.left) ≡ take l.at (texts l.right)
