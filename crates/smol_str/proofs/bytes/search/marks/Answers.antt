use Rattle.smol_str.proofs.CutLemmas.Near.{marked}
use Rattle.smol_str.proofs.bytes.search.marks.Goals as goal

pub returns : goal.returns
returns g c =
    marked c.args.byte c.args.bytes.now c.load.result c.args.at g.row.N c.requires.few c.load.ensures.long c.load.ensures.lanes
