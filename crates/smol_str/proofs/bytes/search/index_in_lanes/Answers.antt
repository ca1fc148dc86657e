use Rattle.smol_str.proofs.Common.{rules}
use Rattle.smol_str.specs.declared.bytes.search.TheConstants.{SEARCH_LANES}
use Rattle.smol_str.proofs.CutLemmas.Near.{mask_none, mask_first}
use Rattle.smol_str.proofs.bytes.search.index_in_lanes.Goals as goal

pub returns-then-same-eq0 : goal.returns-then-same-eq0
returns-then-same-eq0 c = mask_none _ c.args.at SEARCH_LANES _ (search rules) c.marks-same.ensures c.if-same-eq0.true

pub returns : goal.returns
returns c = mask_first _ c.args.at SEARCH_LANES _ (search rules) c.marks-same.ensures c.if-same-eq0.false
