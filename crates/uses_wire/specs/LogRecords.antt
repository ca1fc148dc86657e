-- Records on the wire: a level's wire form, and then a message's.
--     form record, HasForm record    its wire form, and whether it has one
--     forms records                  the forms one after another
--     texts record                   its level's and its message's text
--     AfterRecordFault, AfterNextFault, AfterReadFault    a record was not read, or not kept; not all were
use Rattle.std.specs.Prelude.{◌≡◌, ℕ, ◌<◌, ◌⊎◌, List, ◌++◌, length, All, Option, flat_map}
use Rattle.std.specs.Io.KnownBytes.{Consumes}
use Rattle.smol_str.specs.declared.borsh.fault.LimitedFault.{LimitedFault}
use Rattle.smol_str.specs.declared.borsh.fault.LimitedFault.TheVariants.{Decode}
use Rattle.smol_str.specs.declared.borsh.fault.DecodeFault.TheVariants.{OutOfMemory}
use Rattle.smol_str.specs.Wire.{HasWire, wire}
use Rattle.smol_str.specs.WireFaults.{AfterLimitedFault}
use Rattle.uses_wire.specs.declared.log_records.Record.{Record}

abbrev pub HasForm : Record → Type 0
HasForm r = HasWire r.level.text × HasWire r.message.text

abbrev pub form : Record → List ℕ
form r = wire r.level.text ++ wire r.message.text

abbrev pub forms : List Record → List ℕ
forms records = flat_map form records

abbrev pub texts : Record → List ℕ × List ℕ
texts r = (r.level.text, r.message.text)

-- the level was not read, or it was and the message was not
abbrev pub AfterRecordFault : ℕ → ℕ → Option (List ℕ) → Option (List ℕ) → LimitedFault → Type 0
AfterRecordFault level_limit limit input left fault =
    AfterLimitedFault level_limit input left fault
    ⊎ ((level : List ℕ) × (middle : Option (List ℕ)) × HasWire level × Consumes input middle (wire level)
    × AfterLimitedFault limit middle left fault)

-- the next record was not read; or it was, and there was no memory for a longer list
unfoldable pub AfterNextFault : ℕ → ℕ → Option (List ℕ) → Option (List ℕ) → LimitedFault → Type 0
AfterNextFault level_limit limit input left fault =
    AfterRecordFault level_limit limit input left fault
    ⊎ ((fault ≡ Decode OutOfMemory) × (next : Record) × Consumes input left (form next))

-- fewer records than count were read, and then one more was not
abbrev pub AfterReadFault : ℕ → ℕ → ℕ → Option (List ℕ) → Option (List ℕ) → LimitedFault → Type 0
AfterReadFault count level_limit limit input left fault =
    (done : List Record) × (middle : Option (List ℕ)) × All HasForm done × (length done < count)
    × Consumes input middle (forms done) × AfterNextFault level_limit limit middle left fault
