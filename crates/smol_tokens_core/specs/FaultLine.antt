-- The line that reports a fault on standard error.
--     fault_line f       its words
--     numbered_line f    its words, and the number of a line that is not a count line
use Rattle.std.specs.Prelude.{ℕ, List, ◌++◌, codes}
use Rattle.std.specs.Fmt.{decimal}
use Rattle.smol_tokens_core.specs.declared.fault.RunFault.{RunFault}
use Rattle.smol_tokens_core.specs.declared.fault.RunFault.TheVariants.{NotUtf8, OutOfMemory, NotCounts, Full, Io}

-- without its newline
abbrev pub fault_line : RunFault → List ℕ
fault_line NotUtf8 = codes "not UTF-8"
fault_line OutOfMemory = codes "out of memory"
fault_line (NotCounts n) = codes "not a count line"
fault_line Full = codes "full"
fault_line (Io e) = codes "read or write failed"

abbrev pub numbered_line : RunFault → List ℕ
numbered_line NotUtf8 = fault_line NotUtf8
numbered_line OutOfMemory = fault_line OutOfMemory
numbered_line (NotCounts n) = codes "not a count line: " ++ decimal n
numbered_line Full = fault_line Full
numbered_line (Io e) = fault_line (Io e)
