use Rattle.std.proofs.Common.{◌≡◌, ◌++◌, ℕ, List, ◌∙◌, sym, append_assoc}
use Rattle.smol_str.specs.Wire.{HasWire, wire}
use Rattle.smol_str.proofs.CallerLemmas.{items-apart}
use Rattle.uses_wire.specs.declared.log_records.Record.{Record}
use Rattle.uses_wire.specs.LogRecords.{HasForm, form, texts}
use Rattle.uses_wire.proofs.log_records.read_back.Goals as goal

module _ (apart : (s t x y : List ℕ) → HasWire s → HasWire t → wire s ++ x ≡ wire t ++ y → (s ≡ t) × (x ≡ y)) where
  one : (r s : Record) (x y : List ℕ) → HasForm r → HasForm s → form r ++ x ≡ form s ++ y → (texts r ≡ texts s) × (x ≡ y)
  one r s x y h k e =
      let whole = sym (append_assoc (wire r.level.text) (wire r.message.text) x) ∙ e
      ∙ append_assoc (wire s.level.text) (wire s.message.text) y in
      let level = apart _ _ _ _ h.0 k.0 whole in
      let message = apart _ _ _ _ h.1 k.1 level.1 in
      ((λ i. (level.0 i, message.0 i)), message.1)

pub returns-in-Ok : goal.returns-in-Ok
returns-in-Ok c =
    let both = items-apart form HasForm texts (one c.wire_forms.ensures.apart) _ _ _ c.args.rest.now c.in-Ok.ensures.sized
    c.requires.sized c.in-Ok.ensures.count (sym c.in-Ok.ensures.ok ∙ c.requires.written) in
    record { same = both.0; left = both.1 }
