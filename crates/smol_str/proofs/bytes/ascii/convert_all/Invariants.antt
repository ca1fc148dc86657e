-- The bytes so far are mapped, and the others are as they were.
use Rattle.smol_str.proofs.Common.{◌-◌, length, letter}
use Rattle.smol_str.proofs.CaseLemmas.Ascii.{IsMapping}
use Rattle.smol_str.proofs.bytes.ascii.convert_all.Given as goal

abbrev pub invariant-loop-bytes : goal.invariant-loop-bytes
invariant-loop-bytes l = IsMapping (letter l.case) l.fn.bytes l.bytes l.at

abbrev pub decreases-loop-bytes : goal.decreases-loop-bytes
decreases-loop-bytes l = length l.bytes - l.at
