use Rattle.smol_str.proofs.Common.{◌≡◌, ◌*◌, ◌+◌, arith, rules, PACKED_LEN}
use Rattle.smol_str.proofs.BufferLemmas.Words.{one-word, pack-end, pack-step, all-with_zeros}
use Rattle.smol_str.proofs.buffer.packing.pack.Goals.{then-bytes-lt8, else-bytes-lt8+else-loop-i-test}
use Rattle.smol_str.proofs.buffer.packing.pack.Goals as goal

pub loop-i-preserved : goal.loop-i-preserved
loop-i-preserved c =
    let next : 8 * (c.loop-i.i + 1) ≡ 8 * c.loop-i.i + 8 = omega arith in
    let step = pack-step _ _ c.args.bytes.now (8 * c.loop-i.i) c.word_at.result (λ i. (c.type_inv.bytes i).fits) c.requires
    (omega arith) (omega (arith, c.loop-i.invariant.long)) c.loop-i.invariant.front c.word_at.ensures c.put_word-in-loop-i.ensures in
    record { long = c.put_word-in-loop-i.array_long; front = rw next step }

pub returns : goal.returns
returns c = pack-end _ _ c.requires (elim c.if-bytes-lt8.branch [
  | then-bytes-lt8 w ↦ search (rules, arith, one-word)
  | else-bytes-lt8+else-loop-i-test w ↦
      let end : 8 * w.loop-i.i ≡ PACKED_LEN = omega (arith, w.loop-i-test.false, w.loop-i.auto.i-end) in
      rw w.buf-is (all-with_zeros _ _ w.loop-i.invariant.long c.requires (rw end at w.loop-i.invariant.front))
])
