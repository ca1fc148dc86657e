use Rattle.smol_str.proofs.Common.{bytes_decides, rules}
use Rattle.smol_str.proofs.BufferLemmas.Packed.{test-HaveOneBuffer}
use Rattle.smol_str.proofs.TextLemmas.Chars.{bytes_eq-texts}
use Rattle.smol_str.proofs.value.compare.SmolStrPartialEq.eq.Goals as goal

pub returns-in_default : goal.returns-in_default
returns-in_default c = search (rules, bytes_eq-texts, bytes_decides, test-HaveOneBuffer)

pub returns-in-Inline-Inline-clause-inline_buffers : goal.returns-in-Inline-Inline-clause-inline_buffers
returns-in-Inline-Inline-clause-inline_buffers c =
    let left = rw c.in-Inline-Inline.is-0 at c.self.view_is in
    let right = rw c.in-Inline-Inline.is-1 at c.other.view_is in
    rw (← left, ← right) (λ _ _. test-HaveOneBuffer _ _ _ c.equal_by_words.ensures)
