use Rattle.smol_tokens_core.proofs.CountLemmas.{IsCounts-append}
use Rattle.smol_tokens_core.proofs.PartLemmas.{tally-parts, IsMerge-read, merged-again}
use Rattle.smol_tokens_core.proofs.laws.merged_again.Goals as goal

pub returns : goal.returns
returns c = record { behind = IsCounts-append; tally = tally-parts; read = IsMerge-read; again = merged-again }
