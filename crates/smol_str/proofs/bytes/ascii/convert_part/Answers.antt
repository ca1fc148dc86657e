use Rattle.smol_str.proofs.Common.{ap, put_chunk}
use Rattle.smol_str.proofs.CaseLemmas.Lanes.{lower-lanes, upper-lanes}
use Rattle.smol_str.proofs.bytes.ascii.convert_part.Goals.{in-Lower, in-Upper}
use Rattle.smol_str.proofs.bytes.ascii.convert_part.Goals as goal

pub returns : goal.returns
returns g c = let lanes = c.load-lanes.ensures in ap (put_chunk _ _) (elim c.match-case.branch [
  | in-Lower w ↦ rw (w.mapped-is, w.in-Lower.is, ← lanes.lanes) (lower-lanes _ _ lanes.long lanes.fits)
  | in-Upper w ↦ rw (w.mapped-is, w.in-Upper.is, ← lanes.lanes) (upper-lanes _ _ lanes.long lanes.fits)
])
