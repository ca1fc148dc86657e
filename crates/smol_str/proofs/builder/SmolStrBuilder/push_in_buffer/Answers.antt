use Rattle.smol_str.proofs.Common.{arith, rules}
use Rattle.smol_str.proofs.BuilderLemmas.State.{kind_with-short, kind_with-long}
use Rattle.smol_str.proofs.TextLemmas.Sizes.{size-append, size-chars}
use Rattle.smol_str.proofs.builder.SmolStrBuilder.push_in_buffer.Goals.{in-Inline+else-text-len, in_default}
use Rattle.smol_str.proofs.builder.SmolStrBuilder.push_in_buffer.Goals as goal

pub invariant_of-self : goal.invariant_of-self
invariant_of-self c = search (rules, arith, size-append, size-chars)

pub returns-then-text-len-clause-done : goal.returns-then-text-len-clause-done
returns-then-text-len-clause-done c = λ _. search (rules, arith, kind_with-short, size-append, size-chars)

pub returns-clause-outgrown : goal.returns-clause-outgrown
returns-clause-outgrown c = λ _. search (rules, arith, kind_with-long, size-append, size-chars)
