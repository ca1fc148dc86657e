-- What is read so far is count lines, and the tally is theirs as long as it fits.
use Rattle.std.proofs.Common.{◌+◌, ◌≤◌, length}
use denote.Text.{Utf8}
use denote.Shadow.{shadow}
use Rattle.std.specs.Str.{chars}
use Rattle.smol_tokens_core.proofs.SumLemmas.{Summed}
use Rattle.smol_tokens_core.proofs.merge.add_counts.Given as goal

abbrev pub invariant-loop-count : goal.invariant-loop-count
invariant-loop-count g l =
    shadow (Utf8 l.rest)
    × (l.lines + length l.rest ≤ length l.text)
    × Summed (chars l.text) (chars l.rest) l.lines l.fits l.tally

abbrev pub decreases-loop-count : goal.decreases-loop-count
decreases-loop-count g l = length l.rest
