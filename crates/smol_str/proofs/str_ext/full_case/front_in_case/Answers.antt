use Rattle.smol_str.proofs.Common.{ap, ◌∙◌, appended, empty_builder, InBuffer, ◌≡◌, chars, length, take, drop, converted, chars-IsAscii, take_at, arith, rules}
use Rattle.smol_str.proofs.TextLemmas.Results.{OnErr-always}
use Rattle.smol_str.proofs.CaseLemmas.Ascii.{from_start}
use Rattle.smol_str.proofs.CaseLemmas.Full.{ascii-boundary, ascii-utf8, ascii-chars, begun-mapped, begun-heap}
use Rattle.smol_str.proofs.str_ext.full_case.front_in_case.Goals as goal

pub range-front-requires-clause-end_boundary : goal.range-front-requires-clause-end_boundary
range-front-requires-clause-end_boundary c = ascii-boundary c.args.case _ _ c.utf8.text c.requires

pub returns-then-len-le-INLINE_CAP-clause-ok : goal.returns-then-len-le-INLINE_CAP-clause-ok
returns-then-len-le-INLINE_CAP-clause-ok c =
    let front = take c.args.len c.args.text.now in
    cc (
      c.from_short-then-len-le-INLINE_CAP.ensures,
      c.in_case-short.ensures.text,
      c.from_short.ensures,
      c.range-front.ensures.value,
      from_start c.args.text.now c.args.len,
      chars-IsAscii front c.requires.low,
      begun-mapped c.args.case _ _ c.utf8.text c.requires,
    )

pub returns-in_err-bytes-clause-refused : goal.returns-in_err-bytes-clause-refused
returns-in_err-bytes-clause-refused c =
    OnErr-always c.from_residual.result _ (begun-heap c.args.case _ _ c.utf8.text c.requires (omega (arith, c.if-len-le-INLINE_CAP.false)))

pub from_utf8_unchecked-requires : goal.from_utf8_unchecked-requires
from_utf8_unchecked-requires c =
    let front : c.deref_mut.result.now ≡ take c.args.len c.args.text.now = search (rules, from_start) in
    let is : c.convert_all.new.bytes ≡ converted c.args.case (take c.args.len c.args.text.now) = rw front at c.convert_all.ensures in
    let long : length c.convert_all.new.bytes ≡ c.extend_from_slice.new.self.len = search rules in
    rw (take_at c.convert_all.new.bytes _ _ long) (ascii-utf8 c.args.case _ _ c.utf8.text c.requires _ is)

pub returns-clause-ok : goal.returns-clause-ok
returns-clause-ok c =
    let front : c.deref_mut.result.now ≡ take c.args.len c.args.text.now = search (rules, from_start) in
    let is : c.convert_all.new.bytes ≡ converted c.args.case (take c.args.len c.args.text.now) = rw front at c.convert_all.ensures in
    let long : length c.convert_all.new.bytes ≡ c.extend_from_slice.new.self.len = search rules in
    let behind = drop (length c.convert_all.new.bytes) c.extend_from_slice.new.self.items in
    let read = take_at c.convert_all.new.bytes behind c.extend_from_slice.new.self.len long in
    c.from_long.ensures ∙ ap (λ v. appended (empty_builder InBuffer) (chars v.items)) c.from_utf8_unchecked.ensures.value
    ∙ ap (λ bs. appended (empty_builder InBuffer) (chars bs)) read
    ∙ ap (λ t. appended (empty_builder InBuffer) t) (ascii-chars c.args.case _ _ c.utf8.text c.requires _ is)
