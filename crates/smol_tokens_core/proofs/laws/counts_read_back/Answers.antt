use Rattle.smol_tokens_core.proofs.CountLemmas.{IsCounts-once, IsFirstOther-once, IsMerge-once, not_counts}
use Rattle.smol_tokens_core.proofs.laws.counts_read_back.Goals as goal

pub returns : goal.returns
returns c = record { once = IsCounts-once; merge = IsMerge-once; other = not_counts; line = IsFirstOther-once }
