-- The builder has the text up to the index, with the new text before each character.
use Rattle.smol_str.proofs.Common.{◌-◌, [], chars, IsReplacing}
use Rattle.smol_str.proofs.str_ext.replace.push_between.Given as goal

abbrev pub invariant-loop-passed : goal.invariant-loop-passed
invariant-loop-passed l = IsReplacing (chars l.text) [] (chars l.to) l.count (l.count - l.passed) l.builder l.index
