use Rattle.smol_tokens_core.proofs.PartLemmas.{lines-parts, tally-lines, reports-read, reports-merged, full-parts}
use Rattle.smol_tokens_core.proofs.laws.counted_by_parts.Goals as goal

pub returns : goal.returns
returns c =
    record { lines = lines-parts; tally = tally-lines; read = reports-read; report = reports-merged; full = full-parts }
