use Rattle.smol_str.proofs.Common.{arith, ℕ, ◌+◌, ◌<◌, ◌≤◌, List, take, length, length-take, length-take-le}
use Rattle.smol_str.proofs.TextLemmas.Results.{IfErr-is}
use Rattle.smol_str.proofs.WireLemmas.Stream.{GaveBelow-after, GaveUpTo-after}
use Rattle.smol_str.proofs.stream.read_up_to.Goals as goal

-- where there was no room for n bytes at the most, n is not 0
some_of_front : (n len cap : ℕ) (bytes : List ℕ) → len ≤ cap → cap < len + length (take n bytes) → 0 < n
some_of_front n len cap bytes fits full = let most = length-take n bytes in omega arith

pub returns-in_err-n-clause-fault : goal.returns-in_err-n-clause-fault
returns-in_err-n-clause-fault g c =
    let room = length-take c.min-room.result c.loop-chunk.chunk in
    IfErr-is _ _ _ c.from_residual.ensures.1
    (GaveBelow-after _ _ _ c.loop-chunk.all.items _ c.args.limit c.loop-chunk.invariant.1 c.in_err-n.ensures.failed
    (omega arith))

pub returns-in_err-extend_from_slice-clause-fault : goal.returns-in_err-extend_from_slice-clause-fault
returns-in_err-extend_from_slice-clause-fault g c =
    let n = c.in_ok-n.n in
    let room = length-take c.min-room.result c.loop-chunk.chunk in
    let within : n ≤ length c.fill.new.buf = omega (arith, c.in_ok-n.ensures.within, c.fill.auto.buf) in
    let came = length-take-le n c.fill.new.buf within in
    IfErr-is _ _ _ c.from_residual-in_err-extend_from_slice.ensures.1
    (GaveUpTo-after _ _ _ c.loop-chunk.all.items _ c.args.limit c.loop-chunk.invariant.1 c.in_ok-n.ensures.bytes
    (omega (arith, some_of_front n _ _ _ c.loop-chunk.all.ok.1 c.in_err-extend_from_slice.ensures.full))
    (omega arith))
