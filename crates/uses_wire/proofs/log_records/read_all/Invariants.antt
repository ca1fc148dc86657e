use Rattle.std.proofs.Common.{◌≡◌, length, All}
use Rattle.std.specs.Io.KnownBytes.{Consumes}
use Rattle.uses_wire.specs.LogRecords.{HasForm, forms}
use Rattle.uses_wire.proofs.log_records.read_all.Given as goal

abbrev pub invariant-loop-i : goal.invariant-loop-i
invariant-loop-i g l =
    (length l.records.items ≡ l.i) × All HasForm l.records.items
    × Consumes (g.R.Read.remaining l.fn.reader) (g.R.Read.remaining l.reader) (forms l.records.items)
