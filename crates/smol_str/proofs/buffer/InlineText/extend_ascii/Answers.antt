use Rattle.smol_str.proofs.Common.{arith, chars-IsAscii, IsUtf8-from_ascii}
use Rattle.smol_str.proofs.BufferLemmas.Packed.{len-size, IsPacked-append, view-append, IsShort-packed}
use Rattle.smol_str.proofs.buffer.InlineText.extend_ascii.Goals as goal

pub invariant_of-self : goal.invariant_of-self
invariant_of-self g c =
    let (items, came, low, long, put) = c.write_ascii-len.ensures.drew in
    let is = len-size _ _ c.self.invariant c.self.view_is in
    rw long (IsPacked-append _ _ _ items _ c.self.invariant c.self.view_is is (IsUtf8-from_ascii items low)
    (omega (arith, long, c.write_ascii-len.ensures.room)) put)

pub returns-clause-drew : goal.returns-clause-drew
returns-clause-drew g c =
    let (items, came, low, long, put) = c.write_ascii-len.ensures.drew in
    let is = len-size _ _ c.self.invariant c.self.view_is in
    let text = view-append _ _ _ items _ c.self.invariant c.self.view_is is (IsUtf8-from_ascii items low)
    (omega (arith, long, c.write_ascii-len.ensures.room)) put in
    (items, came, cc (long, text, chars-IsAscii items low))

pub returns-clause-short : goal.returns-clause-short
returns-clause-short g c = IsShort-packed _ (invariant_of-self g c)
