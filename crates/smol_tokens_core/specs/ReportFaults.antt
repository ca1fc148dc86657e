-- Why there is no report on a text.
--     HasALineTooOften t             some line occurs in the text more than `u64::MAX` times
--     WantsMemory mode t             some report is to be written: always in mode join, else on each text but the empty one
--     CountsTooFar mode t            a count of the report would pass `u64::MAX`: in the modes that count
--     HasNoReport mode t             what is known after each fault of making the report
use Rattle.std.specs.Prelude.{◌≡◌, ◌⊎◌, ℕ, ◌<◌, ◌≤◌, ◌^◌, List, length, count_by, bytes_eq}
use Rattle.smol_tokens_core.specs.Lines.{lines}
use Rattle.smol_tokens_core.specs.Counts.{IsCounts, HasATokenTooOften, IsFirstOther}
use Rattle.smol_tokens_core.specs.declared.mode.Mode.{Mode}
use Rattle.smol_tokens_core.specs.declared.mode.Mode.TheVariants.{Join, Tokens, Merge}
use Rattle.smol_tokens_core.specs.declared.fault.RunFault.{RunFault}
use Rattle.smol_tokens_core.specs.declared.fault.RunFault.TheVariants.{NotUtf8, OutOfMemory, NotCounts, Full, Io}

abbrev pub HasALineTooOften : List ℕ → Type 0
HasALineTooOften t = (line : List ℕ) × (2 ^ 64 ≤ count_by (bytes_eq line) (lines t))

-- a report of nothing takes no memory
abbrev pub WantsMemory : Mode → List ℕ → Type 0
WantsMemory mode t = (mode ≡ Join) ⊎ (0 < length t)

-- of what is merged, all lines are count lines
abbrev pub CountsTooFar : Mode → List ℕ → Type 0
CountsTooFar mode t =
    ((mode ≡ Tokens) × HasALineTooOften t)
    ⊎ ((mode ≡ Merge) × ((pairs : List (List ℕ × ℕ)) × IsCounts t pairs × HasATokenTooOften pairs))

abbrev pub HasNoReport : Mode → List ℕ → RunFault → Type 0
HasNoReport mode t NotUtf8 = ⊥
HasNoReport mode t OutOfMemory = WantsMemory mode t
HasNoReport mode t (NotCounts n) = (mode ≡ Merge) × IsFirstOther t n
HasNoReport mode t Full = CountsTooFar mode t
HasNoReport mode t (Io e) = ⊥
