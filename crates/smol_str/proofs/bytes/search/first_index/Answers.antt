use Rattle.smol_str.proofs.Common.{length, arith}
use Rattle.smol_str.proofs.CutLemmas.Near.{then-first}
use Rattle.memchr.proofs.lemmas.FindLemmas.{Nowhere-then}
use Rattle.smol_str.proofs.bytes.search.first_index.Goals as goal

pub loop-at-init : goal.loop-at-init
loop-at-init c = (omega arith, λ k low high. absurd (omega arith))

pub returns-in-Some : goal.returns-in-Some
returns-in-Some c =
    then-first (length c.args.bytes.now) (omega arith) (omega (arith, c.if-bytes-at-ge-SEARCH_LANES.true)) c.loop-at.invariant.1
    c.in-Some.ensures

pub loop-at-preserved : goal.loop-at-preserved
loop-at-preserved c =
    (omega (arith, c.if-bytes-at-ge-SEARCH_LANES.true), Nowhere-then c.loop-at.invariant.1 c.in_default.ensures)
