use Rattle.std.proofs.Common.{◌≡◌}
use Rattle.smol_str.specs.Keys.{innermost, entry_lists}
use Rattle.uses_maps.proofs.find.Given as goal

abbrev pub invariant-loop-scope : goal.invariant-loop-scope
invariant-loop-scope l =
    innermost l.name.text (entry_lists l.scope-iterator.iter.rest.now) ≡ innermost l.name.text (entry_lists l.scopes)
