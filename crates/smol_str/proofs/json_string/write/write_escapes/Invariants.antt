-- What is written so far, and what is left.
use denote.Shadow.{shadow}
use denote.Text.{Utf8}
use Rattle.smol_str.proofs.Common.{◌≡◌, ◌≤◌, ◌++◌, length}
use Rattle.json.specs.Print.{escape}
use Rattle.smol_str.proofs.json_string.write.write_escapes.Given as goal

abbrev pub invariant-loop-byte : goal.invariant-loop-byte
invariant-loop-byte l = shadow (Utf8 l.rest) × (length l.rest ≤ length l.fn.text)
    × (l.json.items ++ escape l.rest ≡ l.fn.json.items ++ escape l.fn.text)

abbrev pub decreases-loop-byte : goal.decreases-loop-byte
decreases-loop-byte l = length l.rest
