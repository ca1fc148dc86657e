use Rattle.smol_str.proofs.Common.{sym, ◌∙◌}
use Rattle.smol_str.proofs.BufferLemmas.Ends.{same-lanes}
use Rattle.smol_str.proofs.bytes.words.equal_lanes.Goals as goal

pub returns : goal.returns
returns g c =
    let same = same-lanes c.load.result c.load-2.result g.row.N c.load.ensures.long c.load-2.ensures.long c.requires.few.1 in (
      λ found. sym c.load.ensures.lanes ∙ same.0 found ∙ c.load-2.ensures.lanes,
      λ is. same.1 (c.load.ensures.lanes ∙ is ∙ sym c.load-2.ensures.lanes),
    )
