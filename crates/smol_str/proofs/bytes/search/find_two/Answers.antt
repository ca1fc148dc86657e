use Rattle.smol_str.proofs.Common.{◌+◌, ◌-◌, length, arith}
use Rattle.memchr.proofs.lemmas.FindLemmas.{Nowhere-then}
use Rattle.smol_str.proofs.CutLemmas.Near.{found-last, then-first}
use Rattle.smol_str.proofs.bytes.search.find_two.Goals as goal

pub returns-in-Some : goal.returns-in-Some
returns-in-Some c =
    then-first (length c.args.bytes.now + 1) (omega arith) (omega (arith, c.loop-at-test.true, c.if-len-le32.false)) c.loop-at.invariant
    c.in-Some.ensures

pub loop-at-preserved : goal.loop-at-preserved
loop-at-preserved c = Nowhere-then c.loop-at.invariant c.in_default.ensures

pub returns : goal.returns
returns c =
    found-last c.args.bytes.now c.args.needle.now c.requires c.loop-at.at (length c.args.bytes.now - 33) 32
    (omega (arith, c.if-len-le32.false)) (omega (arith, c.loop-at-test.false)) c.loop-at.invariant _ c.two_in_lanes-2.ensures
