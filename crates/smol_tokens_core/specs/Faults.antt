-- What holds after a run: after `Ok`, and after each fault.
--     Streams           what a reader and a writer had before the run, and what they have after it
--     WroteReport       the whole input was read, and exactly the report on it was written
--     WroteBeginning    the whole input was read, and only a beginning of the report was written
--     StopsReading      some of the input was read, and there was no room for it
--     AfterFault        what holds after a fault
use Rattle.std.specs.Prelude.{ℕ, ◌≡◌, ◌<◌, ◌⊎◌, List, length, Option, IfSome, IsUtf8, encode_utf8_all}
use Rattle.std.specs.Str.{chars}
use Rattle.std.specs.Io.KnownBytes.{Appends, Consumes, Keeps}
use Rattle.smol_tokens_core.specs.declared.mode.Mode.{Mode}
use Rattle.smol_tokens_core.specs.declared.mode.Mode.TheVariants.{Tokens, Merge}
use Rattle.smol_tokens_core.specs.declared.fault.RunFault.{RunFault}
use Rattle.smol_tokens_core.specs.declared.fault.RunFault.TheVariants.{NotUtf8, OutOfMemory, NotCounts, Full, Io}
use Rattle.smol_tokens_core.specs.Report.{IsReport}
use Rattle.smol_tokens_core.specs.ReportFaults.{WantsMemory, CountsTooFar}
use Rattle.smol_tokens_core.specs.Counts.{IsFirstOther}
use Rattle.smol_str.specs.Stream.{AppendsBeginning, GaveAll}

-- of the reader what it had, and what it has left; of the writer what it held, and what it holds now
pub record Streams : Type 0 where
  pub input : Option (List ℕ)
  pub left : Option (List ℕ)
  pub held : Option (List ℕ)
  pub holds : Option (List ℕ)

-- of a reader and a writer, each before and after, where `remaining` says what a reader has left, and `contents` what a
-- writer holds
abbrev pub streams : {R W : Type 0} → (R → Option (List ℕ)) → R → R → (W → Option (List ℕ)) → W → W → Streams
streams remaining reader read contents writer written =
    record { input = remaining reader; left = remaining read; held = contents writer; holds = contents written }

module _ (mode : Mode) (s : Streams) where
  -- the reader gave all its bytes, they are the UTF-8 of a text, and exactly the report on that text was written
  abbrev pub WroteReport : Type 0
  WroteReport =
      GaveAll s.input s.left
      × IfSome s.input (λ bytes. IsUtf8 bytes
      × ((report : List ℕ) × IsReport mode (chars bytes) report × Appends s.held s.holds (encode_utf8_all report)))

  -- the reader gave all its bytes, UTF-8 of a text, and a beginning of the report on it was written, but not all
  abbrev pub WroteBeginning : Type 0
  WroteBeginning =
      GaveAll s.input s.left
      × IfSome s.input (λ bytes. IsUtf8 bytes
      × ((report : List ℕ) × IsReport mode (chars bytes) report × AppendsBeginning s.held s.holds (encode_utf8_all report)))

  -- some bytes came
  abbrev pub StopsReading : Type 0
  StopsReading = (bytes : List ℕ) × (0 < length bytes) × Consumes s.input s.left bytes

  -- not UTF-8: the whole input came and is not UTF-8, and nothing was written; out of memory: nothing was written either,
  -- and the input was being read, or the whole of it came, is UTF-8 and asks for a report; not counts, only in mode merge,
  -- and full, only in the modes that count: the whole of it came, and nothing was written; after a failed read nothing
  -- either, and after a failed write a beginning of the report
  abbrev pub AfterFault : RunFault → Type 0
  AfterFault NotUtf8 = GaveAll s.input s.left × IfSome s.input (λ bytes. ¬ (IsUtf8 bytes)) × Keeps s.held s.holds
  AfterFault OutOfMemory =
      Keeps s.held s.holds
      × (StopsReading
      ⊎ (GaveAll s.input s.left × IfSome s.input (λ bytes. IsUtf8 bytes × WantsMemory mode (chars bytes))))
  AfterFault (NotCounts n) =
      (mode ≡ Merge)
      × GaveAll s.input s.left
      × IfSome s.input (λ bytes. IsUtf8 bytes × IsFirstOther (chars bytes) n)
      × Keeps s.held s.holds
  AfterFault Full =
      ((mode ≡ Tokens) ⊎ (mode ≡ Merge))
      × GaveAll s.input s.left
      × IfSome s.input (λ bytes. IsUtf8 bytes × CountsTooFar mode (chars bytes))
      × Keeps s.held s.holds
  AfterFault (Io e) =
      (Keeps s.held s.holds × ((bytes : List ℕ) × Consumes s.input s.left bytes)) ⊎ WroteBeginning
