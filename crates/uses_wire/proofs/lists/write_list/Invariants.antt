use Rattle.std.proofs.Common.{◌≡◌, ◌++◌, length, take, All, flat_map}
use Rattle.std.specs.Int.{w32, to_le_bytes}
use Rattle.smol_str.specs.Wire.{HasWire, wire}
use Rattle.smol_str.specs.Meaning.{texts}
use Rattle.uses_wire.proofs.lists.write_list.Given as goal

abbrev pub invariant-loop-value : goal.invariant-loop-value
invariant-loop-value l =
    All HasWire (texts (take l.value-index l.values))
    × (l.bytes.items ≡ to_le_bytes w32 (length l.values) ++ flat_map wire (texts (take l.value-index l.values)))
