-- What is written so far, and what is left.
use denote.Shadow.{shadow}
use denote.Text.{Utf8}
use Rattle.smol_str.proofs.Common.{◌≡◌, ◌∷◌, ◌++◌, length}
use Rattle.json.specs.Print.{escape}
use Rattle.smol_str.proofs.json_string.write.write_escaped.Given as goal

abbrev pub invariant-loop-json : goal.invariant-loop-json
invariant-loop-json l = shadow (Utf8 l.rest) × (34 ∷ escape l.fn.text ≡ l.json.items ++ escape l.rest)

abbrev pub decreases-loop-json : goal.decreases-loop-json
decreases-loop-json l = length l.rest
