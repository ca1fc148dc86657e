-- The bytes so far are replaced, and the others are as they were.
use Rattle.smol_str.proofs.Common.{nat_eq, if◌then◌else◌}
use Rattle.smol_str.proofs.CaseLemmas.Ascii.{IsMapping}
use Rattle.smol_str.proofs.str_ext.replace.replace_each.Given as goal

abbrev pub invariant-loop-at : goal.invariant-loop-at
invariant-loop-at l = IsMapping (λ c. if nat_eq c l.from then l.to else c) l.fn.bytes l.bytes l.at
