use Rattle.smol_str.proofs.Common.{◌≡◌, ◌-◌, true, length, take, drop, ap, refl, arith, and_parts}
use Rattle.smol_str.proofs.BufferLemmas.Words.{same_from}
use Rattle.smol_str.proofs.BufferLemmas.Ends.{same-ends}
use Rattle.smol_str.proofs.bytes.words.equal_by_overlapping_lanes.Goals as goal

pub returns : goal.returns
returns g c =
    let xs = c.args.left.now in
    let ys = c.args.right.now in
    let n = g.row.N in
    let last = length xs - n in
    same_from _ xs ys
    (λ found.
    let both = and_parts c.equal_lanes.result c.equal_lanes-2.result found in
    same-ends xs ys n last c.requires.long (omega (arith, c.requires.least)) (omega (arith, c.requires.most))
    (c.equal_lanes.ensures.0 both.0) (c.equal_lanes-2.ensures.0 both.1))
    (λ e.
    let front : c.equal_lanes.result ≡ true = c.equal_lanes.ensures.1 (ap (λ l. take n (drop 0 l)) e) in
    let end : c.equal_lanes-2.result ≡ true = c.equal_lanes-2.ensures.1 (ap (λ l. take n (drop last l)) e) in
    rw (front, end) refl)
