use Rattle.std.proofs.Common.{◌≡◌, ◌+◌, take}
use Rattle.std.specs.List.{concat}
use Rattle.smol_str.specs.Text.{size}
use Rattle.smol_str.specs.Meaning.{texts}
use Rattle.uses.proofs.layout.token_at.Given as goal

abbrev pub invariant-loop-index : goal.invariant-loop-index
invariant-loop-index l = size (concat (take l.index (texts l.tokens))) + l.left ≡ l.offset
