use Rattle.smol_str.proofs.Common.{rules}
use Rattle.smol_str.proofs.CutLemmas.Near.{two-marked, mask_none, mask_first}
use Rattle.smol_str.proofs.bytes.search.two_in_lanes.Goals as goal

pub returns-then-both-eq0 : goal.returns-then-both-eq0
returns-then-both-eq0 g c =
    let bits = two-marked c.args.bytes.now c.args.needle.now c.requires.two c.args.at g.row.N _ _ c.requires.within c.marks.ensures c.marks-2.ensures in
    mask_none _ c.args.at g.row.N _ (search rules) bits c.if-both-eq0.true

pub returns : goal.returns
returns g c =
    let bits = two-marked c.args.bytes.now c.args.needle.now c.requires.two c.args.at g.row.N _ _ c.requires.within c.marks.ensures c.marks-2.ensures in
    mask_first _ c.args.at g.row.N _ (search rules) bits c.if-both-eq0.false
