-- The characters so far go on the first one.
use Rattle.std.proofs.Common.{◌≤◌, length}
use denote.Text.{Utf8}
use denote.Shadow.{shadow}
use Rattle.std.specs.Str.{chars}
use Rattle.lexer.specs.Tokens.{IsLeftIn}
use Rattle.lexer.proofs.skip_run.Given as goal

abbrev pub invariant-loop-next : goal.invariant-loop-next
invariant-loop-next l =
    shadow (Utf8 l.rest) × (length l.rest ≤ length l.text) × IsLeftIn l.first (chars l.text) (chars l.rest)

abbrev pub decreases-loop-next : goal.decreases-loop-next
decreases-loop-next l = length l.rest
