-- The words so far are those of the text and zeros behind it.
use Rattle.smol_str.proofs.Common.{◌≡◌, ◌*◌, length, take, PACKED_LEN}
use Rattle.smol_str.proofs.BufferLemmas.Words.{with_zeros}
use Rattle.smol_str.proofs.buffer.packing.pack.Given as goal

abbrev pub invariant-loop-i : goal.invariant-loop-i
invariant-loop-i l = record {
  long : length l.buf ≡ PACKED_LEN;
  front : take (8 * l.i) l.buf ≡ take (8 * l.i) (with_zeros l.bytes);
}
