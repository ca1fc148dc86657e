use Rattle.std.proofs.Common.{◌≡◌, take, flat_map}
use Rattle.smol_str.specs.BuilderState.{appended}
use Rattle.uses.proofs.making.push_all.Given as goal

abbrev pub invariant-loop-part : goal.invariant-loop-part
invariant-loop-part l =
    l.out ≡ appended l.initial.out (flat_map (λ part. part.text) (take l.part-index l.parts))
