-- What is out is the report lines of the lines so far, and the other lines are left.
use Rattle.std.proofs.Common.{◌≡◌, ◌++◌, map, encode_utf8_all}
use Rattle.std.specs.List.{flat_map}
use Rattle.std.specs.Str.{chars}
use Rattle.std.specs.String.{string_bytes}
use Rattle.smol_tokens_core.specs.Lines.{lines}
use Rattle.smol_tokens_core.specs.Report.{value_line, mapped_line}
use Rattle.smol_tokens_core.proofs.report.report_lines.Given as goal

abbrev pub invariant-loop-line : goal.invariant-loop-line
invariant-loop-line l =
    (string_bytes l.out ≡ encode_utf8_all (flat_map (λ line. value_line (mapped_line l.mode (chars line.now))) l.yielded))
    × (lines (chars l.text) ≡ map (λ line. chars line.now) l.yielded ++ lines (chars l.line-iterator))
