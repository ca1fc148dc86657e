use Rattle.std.proofs.Common.{map}
use Rattle.smol_str.specs.Joined.{str_text}
use Rattle.smol_str.specs.Meaning.{AreValuesOf}
use Rattle.uses_cutting.proofs.segments.Given as goal

abbrev pub invariant-loop-segment : goal.invariant-loop-segment
invariant-loop-segment l = AreValuesOf (map str_text l.yielded) l.segments.items
