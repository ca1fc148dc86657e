use Rattle.std.proofs.Common.{◌≡◌, map}
use Rattle.uses_maps.specs.Settings.{settings}
use Rattle.uses_maps.proofs.settings.Settings.read.Given as goal

abbrev pub invariant-loop-line : goal.invariant-loop-line
invariant-loop-line l = l.found ≡ settings (map (λ x. x.now) l.yielded)
