use Rattle.std.proofs.Common.{◌≤◌, All, length, map}
use Rattle.smol_str.specs.declared.buffer.TheConstants.{INLINE_CAP}
use Rattle.uses_cutting.proofs.short_lines.Given as goal

abbrev pub invariant-loop-line : goal.invariant-loop-line
invariant-loop-line l = All (λ line. length line ≤ INLINE_CAP) (map (λ x. x.now) l.yielded)
