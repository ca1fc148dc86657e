use Rattle.std.proofs.Common.{◌≡◌, take, flat_map}
use Rattle.smol_str.specs.BuilderState.{appended}
use Rattle.uses.proofs.making.joined.Given as goal

abbrev pub invariant-loop-part : goal.invariant-loop-part
invariant-loop-part l =
    l.builder ≡ appended l.initial.builder (flat_map (λ part. part.text) (take l.part-index l.parts))
