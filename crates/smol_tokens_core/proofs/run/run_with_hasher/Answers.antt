use Rattle.std.proofs.Common.{rules}
use Rattle.std.proofs.lemmas.Option.{IfSome_then}
use Rattle.std.proofs.lemmas.Result.{err_from_is_err_and}
use Rattle.std.proofs.KnownBytes.{Keeps-refl}
use Rattle.smol_tokens_core.proofs.FaultLemmas.{after-no_report}
use Rattle.smol_tokens_core.proofs.run.run_with_hasher.Goals as goal

pub returns-in_err-input-clause-fault : goal.returns-in_err-input-clause-fault
returns-in_err-input-clause-fault g c = search (rules, err_from_is_err_and, Keeps-refl)

pub returns-in_default-clause-fault : goal.returns-in_default-clause-fault
returns-in_default-clause-fault g c = search (rules, IfSome_then, Keeps-refl)

pub returns-in_err-report-clause-fault : goal.returns-in_err-report-clause-fault
returns-in_err-report-clause-fault g c =
    let text = rw c.as_slice.ensures.value at c.in-Ok.ensures.cases in
    let none = rw text.0 at c.in_err-report.ensures.fault in search (rules, err_from_is_err_and, after-no_report)

pub returns-in_err-write_fully-clause-fault : goal.returns-in_err-write_fully-clause-fault
returns-in_err-write_fully-clause-fault g c = search (rules, err_from_is_err_and, IfSome_then)

pub returns-clause-ok : goal.returns-clause-ok
returns-clause-ok g c = search (rules, IfSome_then)
