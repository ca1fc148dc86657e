-- The builder has the text up to the index, with its matches replaced.
use Rattle.smol_str.proofs.Common.{◌-◌, chars, IsReplacing}
use Rattle.smol_str.specs.Needle.{needle_bytes}
use Rattle.smol_str.proofs.str_ext.replace.push_matches.Given as goal

abbrev pub invariant-loop-taken : goal.invariant-loop-taken
invariant-loop-taken l =
    IsReplacing (chars l.text) (chars (needle_bytes l.needle)) (chars l.to) l.count (l.count - l.taken) l.builder l.index
