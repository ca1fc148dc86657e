-- For the program's report: bytes for which memory is wanted.
use Rattle.std.proofs.Common.{◌≡◌, ℕ, ◌<◌, ◌⊎◌, inl, inr, List, [], ◌∷◌, length, Some, Result, Ok, Err, IfErr, subst, arith, chars, length-append, ap}
use Rattle.std.proofs.lemmas.Str.{chars-nil}
use Rattle.smol_tokens_core.specs.declared.mode.Mode.{Mode}
use Rattle.smol_tokens_core.specs.declared.mode.Mode.TheVariants.{Join}
use Rattle.smol_tokens_core.specs.declared.fault.RunFault.{RunFault}
use Rattle.smol_tokens_core.specs.declared.fault.RunFault.TheVariants.{OutOfMemory}
use Rattle.smol_tokens_core.specs.Faults.{Streams, AfterFault}
use Rattle.smol_tokens_core.specs.ReportFaults.{WantsMemory}

wanted : (mode : Mode) (bytes : List ℕ) → WantsMemory mode (chars bytes) → (mode ≡ Join) ⊎ (0 < length bytes)
wanted mode bytes (inl join) = inl join
wanted mode [] (inr some) = absurd (omega (arith, some, ap length chars-nil))
wanted mode (b ∷ bytes) (inr some) = inr (omega arith)

-- the bytes of a reader and a writer that tell them
abbrev known : List ℕ → List ℕ → List ℕ → List ℕ → Streams
known input left held holds = record { input = Some input; left = Some left; held = Some held; holds = Some holds }

pub no_memory : {T : Type 0} (mode : Mode) (input left held holds : List ℕ) (r : Result T RunFault)
    → IfErr r (AfterFault mode (known input left held holds))
    → IfErr r (λ fault. fault ≡ OutOfMemory → ((mode ≡ Join) ⊎ (0 < length input)) × (holds ≡ held))
no_memory mode input left held holds (Ok x) h = tt
no_memory mode input left held holds (Err fault) h = λ is.
    by (subst (AfterFault mode (known input left held holds)) is h) where
      by : AfterFault mode (known input left held holds) OutOfMemory
          → ((mode ≡ Join) ⊎ (0 < length input)) × (holds ≡ held)
      by (same, inl (bytes, some, is)) = (inr (omega (arith, some, ap length is, length-append bytes left)), same)
      by (same, inr (all, (utf8, wants))) = (wanted mode input wants, same)
