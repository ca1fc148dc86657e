use Rattle.std.proofs.Common.{◌≡◌, ◌++◌, ℕ, List, map, flat_map}
use Rattle.smol_str.specs.BuilderState.{appended}
use Rattle.smol_str.specs.Keys.{entry_texts}
use Rattle.uses_maps.specs.Fields.{field_text}
use Rattle.uses_maps.proofs.fields.Fields.to_text.Given as goal

abbrev pub invariant-loop-name : goal.invariant-loop-name
invariant-loop-name l =
    let seen = map {B = List ℕ × List ℕ} (λ e. (e.0.now.text, e.1.now.text)) l.yielded in
    (l.out ≡ appended l.initial.out (flat_map field_text seen))
    × (entry_texts (λ v. v.text) l.initial.name-iterator ≡ seen ++ entry_texts (λ v. v.text) l.name-iterator)
