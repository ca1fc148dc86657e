-- The characters so far are written.
use Rattle.smol_str.proofs.Common.{◌≡◌, ◌+◌, ◌≤◌, length, IsAscii, put_at, INLINE_CAP}
use Rattle.smol_str.proofs.buffer.packing.write_ascii.Given as goal

abbrev pub invariant-loop-character : goal.invariant-loop-character
invariant-loop-character g l = IsAscii l.yielded × (l.len ≡ l.fn.start + length l.yielded) × (l.len ≤ INLINE_CAP)
    × (l.buf ≡ put_at l.fn.buf l.fn.start l.yielded)
