use Rattle.smol_str.proofs.Common.{rules}
use Rattle.smol_str.proofs.BufferLemmas.Packed.{IsShort-packed}
use Rattle.smol_str.proofs.CaseLemmas.Ascii.{IsPacked-converted, text-converted}
use Rattle.smol_str.proofs.buffer.InlineText.in_case.Goals as goal

pub invariant_of-self : goal.invariant_of-self
invariant_of-self c = IsPacked-converted c.args.case _ _ c.self.invariant c.convert_all.ensures

pub returns : goal.returns
returns c = search (rules, IsPacked-converted, text-converted, IsShort-packed)
