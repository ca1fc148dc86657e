-- What holds if an input was not read, or has no report.
use Rattle.std.proofs.Common.{◌≡◌, ℕ, List, Option, Result, IsUtf8, arith, rules}
use Rattle.std.specs.Result.{IsErrAnd, IfErr}
use Rattle.std.specs.Str.{chars}
use Rattle.std.specs.Io.KnownBytes.{Consumes, IsAtEnd}
use Rattle.std.proofs.KnownBytes.{Keeps-refl}
use Rattle.std.proofs.lemmas.Option.{IfSome_then}
use Rattle.std.proofs.lemmas.Result.{err_from_is_err_and}
use Rattle.smol_tokens_core.specs.Faults.{AfterFault}
use Rattle.smol_tokens_core.specs.ReportFaults.{WantsMemory, HasNoReport}
use Rattle.smol_tokens_core.specs.declared.mode.Mode.{Mode}
use Rattle.smol_tokens_core.specs.declared.fault.RunFault.{RunFault}
use Rattle.smol_tokens_core.specs.declared.fault.RunFault.TheVariants.{OutOfMemory}

-- the whole input came, is a text, and there is no report on it: nothing was written
pub after-no_report : (mode : Mode) (input left held : Option (List ℕ)) (bytes : List ℕ) (fault : RunFault)
    → Consumes input left bytes → IsAtEnd left → IsUtf8 bytes → HasNoReport mode (chars bytes) fault
    → AfterFault mode (record { input = input; left = left; held = held; holds = held }) fault
after-no_report mode input left held bytes fault came end utf8 none = search (rules, Keeps-refl, IfSome_then)

-- memory was refused
pub no_report-refused : {T : Type 0} (r : Result T RunFault) (mode : Mode) (t : List ℕ)
    → IsErrAnd r (λ fault. fault ≡ OutOfMemory) → WantsMemory mode t → IfErr r (HasNoReport mode t)
no_report-refused r mode t refused wants = search (rules, arith, err_from_is_err_and)
