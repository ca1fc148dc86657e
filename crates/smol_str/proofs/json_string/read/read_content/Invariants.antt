-- What was read so far is what was appended.
use denote.Shadow.{shadow}
use denote.Text.{Utf8}
use Rattle.smol_str.proofs.Common.{◌++◌, length, encode_utf8_all}
use Rattle.smol_str.specs.Unescaped.{Unescapes}
use Rattle.smol_str.proofs.json_string.read.read_content.Given as goal

abbrev pub invariant-loop-character : goal.invariant-loop-character
invariant-loop-character l = shadow (Utf8 l.rest) × Unescapes (l.plain ++ l.fn.rest) (encode_utf8_all l.builder.text) l.rest

abbrev pub decreases-loop-character : goal.decreases-loop-character
decreases-loop-character l = length l.rest
