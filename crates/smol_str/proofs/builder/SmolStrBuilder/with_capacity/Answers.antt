use Rattle.smol_str.proofs.Common.{◌≡◌, chars-nil, nat_le, nat_tests, false, arith, INLINE_CAP}
use Rattle.smol_str.proofs.builder.SmolStrBuilder.with_capacity.Goals as goal

pub returns-clause-ok : goal.returns-clause-ok
returns-clause-ok c =
    let large : nat_le c.args.capacity INLINE_CAP ≡ false = grind (arith, nat_tests) in
    rw (c.in_ok-heap.ensures.bytes, chars-nil, large)
