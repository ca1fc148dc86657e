use Rattle.std.proofs.Common.{arith}
use Rattle.smol_str.proofs.CallerLemmas.{items}
use Rattle.uses_wire.proofs.lists.write_list.Goals as goal

pub loop-value-preserved : goal.loop-value-preserved
loop-value-preserved c = grind (arith, items)
