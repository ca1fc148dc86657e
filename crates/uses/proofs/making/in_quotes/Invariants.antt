use Rattle.std.proofs.Common.{◌≡◌}
use Rattle.smol_str.specs.BuilderState.{appended}
use Rattle.uses.proofs.making.in_quotes.Given as goal

abbrev pub invariant-loop-character : goal.invariant-loop-character
invariant-loop-character l = l.out ≡ appended l.initial.out l.yielded
