use Rattle.smol_str.proofs.CaseLemmas.Lanes.{low-lanes}
use Rattle.smol_str.proofs.bytes.ascii.has_high.Goals as goal

pub returns : goal.returns
returns g c = low-lanes c.args.lanes g.row.N c.requires.long c.requires.few
