-- The builder is the first one with the first character and those so far.
use Rattle.smol_str.proofs.Common.{◌≡◌, ◌∷◌, appended}
use Rattle.smol_str.proofs.builder.SmolStrBuilder.extend_rest.Given as goal

abbrev pub invariant-loop-character : goal.invariant-loop-character
invariant-loop-character g l = l.self ≡ appended l.fn.self (l.fn.first ∷ l.yielded)
