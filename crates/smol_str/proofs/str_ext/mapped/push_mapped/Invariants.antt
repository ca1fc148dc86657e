-- The parts so far are in the builder.
use denote.Shadow.{shadow}
use denote.Text.{Utf8}
use Rattle.smol_str.proofs.Common.{length, chars}
use Rattle.smol_str.specs.CaseParts.{IsPartOf}
use Rattle.smol_str.proofs.str_ext.mapped.push_mapped.Given as goal

abbrev pub invariant-loop-rest : goal.invariant-loop-rest
invariant-loop-rest l = shadow (Utf8 l.rest) × IsPartOf l.case l.fn.builder l.builder (chars l.fn.text) (chars l.rest)

abbrev pub decreases-loop-rest : goal.decreases-loop-rest
decreases-loop-rest l = length l.rest
