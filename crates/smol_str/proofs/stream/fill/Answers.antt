use Rattle.smol_str.proofs.Common.{◌≡◌, ℕ, ◌+◌, ◌-◌, ◌≤◌, List, ◌++◌, rules, arith, length, take, slice_range, subst, le_refl, drop_at, length-take-le, Consumes, Consumes-trans, take-add, take-append-le}
use Rattle.std.proofs.lemmas.Slice.{take-put_mid_below}
use borrow.Rule.Slice.PartMut.{put_mid}
use Rattle.std.proofs.KnownBytes.{Consumes-kept}
use Rattle.smol_str.proofs.stream.fill.Goals as goal

take_split : (a b : ℕ) (old new : List ℕ) → a ≤ b → take a new ≡ take a old
    → take a old ++ slice_range new a b ≡ take b new
take_split a b old new h front =
    let same : a + (b - a) ≡ b = omega arith in cc (take-add a (b - a) new)

slice_range-put_mid : (a k n : ℕ) (xs ys : List ℕ) → a ≤ length xs → n ≤ length ys
    → slice_range (put_mid a k xs ys) a (a + n) ≡ take n ys
slice_range-put_mid a k n xs ys within fits = search (rules, arith, drop_at, length-take-le, take-append-le)

pub loop-filled-preserved : goal.loop-filled-preserved
loop-filled-preserved g c =
    let from = c.loop-filled.filled in
    let room = length c.loop-filled.buf - from in
    let within = c.loop-filled.invariant.0 in
    let old = c.loop-filled.buf in
    let came = c.read.new.buf in
    let n = c.in_ok-n.n in
    let part = slice_range-put_mid from room n old came within c.in_ok-n.ensures.bound.0 in
    let joined = take_split from (from + n) old (put_mid from room old came) (omega arith)
    (take-put_mid_below _ _ _ _ _ (le_refl _) within) in
    let both = Consumes-trans _ _ _ _ _ c.loop-filled.invariant.1 c.in_ok-n.ensures.bytes.0 in
    (search rules, subst (Consumes _ _) (cc (part, joined)) both)

pub returns-in_err-n-clause-failed : goal.returns-in_err-n-clause-failed
returns-in_err-n-clause-failed g c =
    let gone = length-take-le c.loop-filled.filled c.loop-filled.buf c.loop-filled.invariant.0 in
    search (rules, arith, Consumes-kept)
