use Rattle.smol_str.proofs.Common.{◌+◌, ◌%◌, ◌∙◌, sym, arith, take_all, refl, PACKED_LEN}
use Rattle.smol_str.proofs.BufferLemmas.Words.{copy-step, block-step}
use Rattle.smol_str.proofs.buffer.packing.copy_packed.Goals as goal

pub returns : goal.returns
returns c =
    let bytes = c.args.packed.now in
    let long = c.told-packed in
    let start = copy-step _ _ bytes 0 8 (omega (arith, long)) (omega arith) refl c.copy_at.ensures in
    let one = block-step _ _ bytes (PACKED_LEN % 16) long c.copy_at.array_long start c.copy_block.ensures.within
    c.copy_block.ensures.past (λ g. omega (arith, g)) in
    let two = block-step _ _ bytes (PACKED_LEN % 16 + 16) long c.copy_block.array_long one c.copy_block-2.ensures.within
    c.copy_block-2.ensures.past (λ g. omega (arith, g)) in
    let three = block-step _ _ bytes (PACKED_LEN % 16 + 32) long c.copy_block-2.array_long two c.copy_block-3.ensures.within
    c.copy_block-3.ensures.past (λ g. omega (arith, g)) in
    let four = block-step _ _ bytes (PACKED_LEN % 16 + 48) long c.copy_block-3.array_long three c.copy_block-4.ensures.within
    c.copy_block-4.ensures.past (λ g. omega (arith, g)) in
    sym (take_all (PACKED_LEN % 16 + 48 + 16) _ (omega (arith, c.copy_block-4.array_long))) ∙ four
    ∙ take_all (PACKED_LEN % 16 + 48 + 16) _ (omega (arith, long))
