-- What a failed read makes of a run.
use Rattle.smol_tokens_core.specs.declared.fault.RunFault.{RunFault}
use Rattle.smol_tokens_core.specs.declared.fault.RunFault.TheVariants as run
use Rattle.smol_str.specs.declared.stream.ReadFault.{ReadFault}
use Rattle.smol_str.specs.declared.stream.ReadFault.TheVariants.{OutOfMemory, Io}

-- out of memory stays out of memory, and an error of the reader goes on as it is
abbrev pub of_read_fault : ReadFault → RunFault
of_read_fault OutOfMemory = run.OutOfMemory
of_read_fault (Io e) = run.Io e
