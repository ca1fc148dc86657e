-- The flag says whether the words so far are equal.
use Rattle.smol_str.proofs.Common.{◌≡◌, ◌*◌, take, nat_eq, pointwise}
use Rattle.smol_str.proofs.buffer.packing.equal_words.Given as goal

abbrev pub invariant-loop-i : goal.invariant-loop-i
invariant-loop-i l = l.same ≡ pointwise nat_eq (take (8 * l.i) l.left) (take (8 * l.i) l.right)
