-- What is counted is the lines so far, and the other lines are left.
use Rattle.std.proofs.Common.{◌≡◌, ◌++◌, map}
use Rattle.std.specs.Str.{chars}
use Rattle.smol_tokens_core.specs.Lines.{lines}
use Rattle.smol_tokens_core.specs.Tally.{tally, seen_once}
use Rattle.smol_tokens_core.proofs.tokens.tally_lines.Given as goal

abbrev pub invariant-loop-line : goal.invariant-loop-line
invariant-loop-line g l =
    let seen = map (λ line. chars line.now) l.yielded in
    (l.tally ≡ tally (seen_once seen)) × (lines (chars l.text) ≡ seen ++ lines (chars l.line-iterator))
