use Rattle.smol_str.proofs.Common.{◌≡◌, ◌*◌, ◌+◌, ◌-◌, ◌∙◌, arith, rules, PACKED_LEN}
use Rattle.smol_str.proofs.BufferLemmas.WordOrder.{order-differ, order-last, order-same}
use Rattle.smol_str.proofs.buffer.packing.order_words.Goals as goal

pub returns-then-a-b : goal.returns-then-a-b
returns-then-a-b c = search (rules, arith, order-differ)

pub loop-i-preserved : goal.loop-i-preserved
loop-i-preserved c =
    let next : 8 * (c.loop-i.i + 1) ≡ 8 * c.loop-i.i + 8 = omega arith in
    rw next (c.loop-i.invariant
    ∙ order-same c.args.left.now c.args.right.now (8 * c.loop-i.i) _ _ c.fits-left c.fits-right
    (omega (arith, c.told-left, c.loop-i-test.true))
    (omega (arith, c.told-right, c.loop-i-test.true)) c.read_ordered-a.ensures c.read_ordered-b.ensures c.if-a-b.false)

pub returns : goal.returns
returns c =
    let end : 8 * c.loop-i.i ≡ PACKED_LEN - 8 = omega arith in
    let order = order-last c.args.left.now c.args.right.now (PACKED_LEN - 8) _ _ c.fits-left c.fits-right c.told-left
    c.told-right c.read_ordered.ensures c.read_ordered-2.ensures in
    grind (arith, end, c.loop-i.invariant, c.cmp-2.ensures, order)
