-- The builder has what is before the index.
use Rattle.smol_str.proofs.Common.{◌-◌, length, chars}
use Rattle.smol_str.specs.CaseParts.{IsLowering}
use Rattle.smol_str.proofs.str_ext.sigma.push_lowercase_by_segment.Given as goal

abbrev pub invariant-loop-sigma : goal.invariant-loop-sigma
invariant-loop-sigma l = IsLowering (chars l.text) l.builder l.from

abbrev pub decreases-loop-sigma : goal.decreases-loop-sigma
decreases-loop-sigma l = length l.text - l.from
