use Rattle.smol_str.proofs.BuilderLemmas.Collect.{outgrown-stopped, collected-value, outgrown-value}
use Rattle.smol_str.proofs.Common.{rules}
use Rattle.smol_str.proofs.collect.collect.Goals as goal

pub returns-in_err-append_all-clause-refused : goal.returns-in_err-append_all-clause-refused
returns-in_err-append_all-clause-refused g c = search (rules, outgrown-stopped)

pub returns : goal.returns
returns g c = search (rules, collected-value, outgrown-value)
