use Rattle.std.proofs.Common.{arith}
use Rattle.smol_str.proofs.CallerLemmas.{builders}
use Rattle.uses.proofs.making.joined.Goals as goal

pub returns-in_err-push_str-clause-refused : goal.returns-in_err-push_str-clause-refused
returns-in_err-push_str-clause-refused c = grind (arith, builders)
