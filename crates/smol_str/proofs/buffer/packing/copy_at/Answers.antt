use Rattle.smol_str.proofs.Common.{arith, common_steps, put_chunk_is}
use Rattle.smol_str.proofs.buffer.packing.copy_at.Goals as goal

pub returns : goal.returns
returns g c =
    let lanes = c.load.ensures.lanes in
    let long = c.told-buf in
    let room = c.requires in
    grind (arith, common_steps, put_chunk_is)
