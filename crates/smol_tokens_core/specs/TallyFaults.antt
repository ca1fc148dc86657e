-- When each fault of a tally comes, what it gives back, and what it makes of a run.
use Rattle.std.specs.Prelude.{◌≡◌, ℕ, ◌+◌, ◌≤◌, ◌^◌, List, Option, None, Some, codes, bytes_eq}
use Rattle.std.specs.Map.{lookup}
use Rattle.smol_str.specs.Meaning.{Meaning}
use Rattle.smol_str.specs.Messages.{out_of_memory_message}
use Rattle.smol_tokens_core.specs.declared.tally.AddFault.{AddFault}
use Rattle.smol_tokens_core.specs.declared.tally.AddFault.TheVariants.{OutOfMemory, Full}
use Rattle.smol_tokens_core.specs.declared.fault.RunFault.{RunFault}
use Rattle.smol_tokens_core.specs.declared.fault.RunFault.TheVariants as run
use Rattle.smol_tokens_core.specs.Tally.{times_of}

-- of t, with so many times, to a tally of the pairs: t is new; or its count would exceed `u64::MAX`
abbrev pub AfterAddFault : List (List ℕ × ℕ) → List ℕ → ℕ → AddFault → Type 0
AfterAddFault pairs t times (OutOfMemory token) = lookup (bytes_eq t) pairs ≡ None
AfterAddFault pairs t times (Full token) = 2 ^ 64 ≤ times_of t pairs + times

-- the token that was handed in
abbrev pub given_back : AddFault → Meaning
given_back (OutOfMemory token) = token
given_back (Full token) = token

-- what it prints
abbrev pub add_fault_message : AddFault → Option (List ℕ)
add_fault_message (OutOfMemory token) = out_of_memory_message
add_fault_message (Full token) = Some (codes "the count would exceed 18446744073709551615")

-- the token is let go
abbrev pub of_add_fault : AddFault → RunFault
of_add_fault (OutOfMemory token) = run.OutOfMemory
of_add_fault (Full token) = run.Full
