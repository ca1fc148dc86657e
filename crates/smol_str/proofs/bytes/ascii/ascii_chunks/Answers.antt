use Rattle.std.proofs.Common.{true≢false}
use Rattle.smol_str.proofs.bytes.ascii.ascii_chunks.Goals as goal

pub returns-then-has_high-clause-stops : goal.returns-then-has_high-clause-stops
returns-then-has_high-clause-stops c = λ room part. true≢false (c.if-has_high.ensures.1 (rw c.load.ensures.lanes part))
