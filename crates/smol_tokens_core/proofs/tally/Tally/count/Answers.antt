use Rattle.smol_tokens_core.proofs.TallyTableLemmas.{lookup-by_text}
use Rattle.smol_tokens_core.proofs.tally.Tally.count.Goals as goal

pub returns : goal.returns
returns g c = let found = lookup-by_text c.args.token.now.text c.self.inside.counts.entries in cc
