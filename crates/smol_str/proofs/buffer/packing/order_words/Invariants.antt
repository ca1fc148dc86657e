-- The words so far are equal, so the order is that of what is left.
use Rattle.smol_str.proofs.Common.{◌≡◌, ◌*◌, drop, nat_cmp, slice_cmp}
use Rattle.smol_str.proofs.buffer.packing.order_words.Given as goal

abbrev pub invariant-loop-i : goal.invariant-loop-i
invariant-loop-i l = slice_cmp nat_cmp l.left l.right ≡ slice_cmp nat_cmp (drop (8 * l.i) l.left)
    (drop (8 * l.i) l.right)
