use Rattle.smol_str.proofs.Common.{◌≡◌, take, converted, rules}
use Rattle.smol_str.proofs.TextLemmas.Results.{OnErr-always}
use Rattle.smol_str.proofs.CaseLemmas.Full.{ascii-boundary, ascii-utf8, ascii-part, ascii-part-heap}
use Rattle.smol_str.proofs.str_ext.mapped.push_ascii.Goals as goal

pub split_at-requires : goal.split_at-requires
split_at-requires g c = ascii-boundary c.args.case _ _ c.utf8.text c.requires.ascii

pub from_utf8_unchecked-requires : goal.from_utf8_unchecked-requires
from_utf8_unchecked-requires g c =
    let is : c.convert_all.new.bytes ≡ converted c.args.case (take g.row.N c.args.text.now) = search rules in
    ascii-utf8 c.args.case _ _ c.utf8.text c.requires.ascii _ is

pub returns-in_err-push_str_heap_first-clause-refused : goal.returns-in_err-push_str_heap_first-clause-refused
returns-in_err-push_str_heap_first-clause-refused g c =
    let is : c.convert_all.new.bytes ≡ converted c.args.case (take g.row.N c.args.text.now) = search rules in
    OnErr-always c.from_residual.result _
    (ascii-part-heap c.args.case _ _ c.utf8.text c.requires.ascii _ is c.args.builder.now (rw c.from_utf8_unchecked.ensures at c.in_err-push_str_heap_first.ensures.refused))

pub returns-clause-ok : goal.returns-clause-ok
returns-clause-ok g c =
    let is : c.convert_all.new.bytes ≡ converted c.args.case (take g.row.N c.args.text.now) = search rules in
    rw c.split_at.ensures.back
    (ascii-part c.args.case _ _ c.utf8.text c.requires.ascii _ is _ _ (rw c.from_utf8_unchecked.ensures at c.in_ok-push_str_heap_first.ensures.ok))
