use Rattle.std.proofs.Common.{◌≡◌, filter}
use Rattle.std.specs.Char.{is_ascii_digit}
use Rattle.smol_str.specs.BuilderState.{appended}
use Rattle.uses.proofs.making.digits.Given as goal

abbrev pub invariant-loop-c : goal.invariant-loop-c
invariant-loop-c l = l.out ≡ appended l.initial.out (filter is_ascii_digit l.yielded)
