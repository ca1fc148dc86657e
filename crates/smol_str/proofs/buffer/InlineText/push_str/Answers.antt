use Rattle.smol_str.proofs.Common.{arith, rules}
use Rattle.smol_str.proofs.BufferLemmas.Packed.{len-size, IsPacked-append, view-append}
use Rattle.smol_str.proofs.buffer.InlineText.push_str.Goals as goal

pub write_at-requires : goal.write_at-requires
write_at-requires c = search (rules, len-size)

pub invariant_of-self : goal.invariant_of-self
invariant_of-self c =
    let is = len-size _ _ c.self.invariant c.self.view_is in
    IsPacked-append _ _ _ c.args.text.now _ c.self.invariant c.self.view_is is c.utf8.text (omega (arith, is, c.requires))
    (rw c.as_bytes.ensures.value at c.write_at.ensures)

pub returns : goal.returns
returns c =
    let is = len-size _ _ c.self.invariant c.self.view_is in
    view-append _ _ _ c.args.text.now _ c.self.invariant c.self.view_is is c.utf8.text (omega (arith, is, c.requires))
    (rw c.as_bytes.ensures.value at c.write_at.ensures)
