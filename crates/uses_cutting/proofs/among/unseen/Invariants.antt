use Rattle.std.proofs.Common.{◌≡◌, not, take, filter}
use Rattle.smol_str.specs.Keys.{has_text}
use Rattle.uses_cutting.proofs.among.unseen.Given as goal

abbrev pub invariant-loop-name : goal.invariant-loop-name
invariant-loop-name l = l.names.items ≡ filter (λ name. not (has_text name.text l.seen)) (take l.name-index l.all)
