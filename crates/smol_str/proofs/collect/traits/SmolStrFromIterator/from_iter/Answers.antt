use Rattle.smol_str.proofs.Common.{rules}
use Rattle.smol_str.specs.Collect.{Collected}
use Rattle.smol_str.proofs.BuilderLemmas.Collect.{run-drains}
use Rattle.smol_str.proofs.collect.traits.SmolStrFromIterator.from_iter.Goals as goal

pub returns-clause-ran : goal.returns-clause-ran
unfolding Collected
returns-clause-ran g c = search (rules, run-drains)
