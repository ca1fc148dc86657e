use Rattle.std.proofs.Common.{◌≡◌, flat_map}
use Rattle.smol_str.specs.BuilderState.{appended}
use Rattle.uses.specs.Layout.{dashed}
use Rattle.uses.proofs.making.with_dashes.Given as goal

abbrev pub invariant-loop-c : goal.invariant-loop-c
invariant-loop-c l = l.out ≡ appended l.initial.out (flat_map dashed l.yielded)
