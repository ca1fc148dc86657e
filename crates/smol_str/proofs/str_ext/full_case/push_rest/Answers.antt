use Rattle.smol_str.proofs.Common.{ap, sym, ◌∙◌, on_ok_weaker, on_err_weaker}
use Rattle.smol_str.proofs.CaseLemmas.Full.{ascii-boundary, lower-rest, upper-rest}
use Rattle.smol_str.proofs.str_ext.full_case.push_rest.Goals as goal

pub push_lowercase_by_segment-requires : goal.push_lowercase_by_segment-requires
push_lowercase_by_segment-requires c = lower-rest _ _ c.utf8.text c.requires.ascii _ (rw c.in-Lower.is at c.requires.front)

pub push_lowercase_by_character-requires : goal.push_lowercase_by_character-requires
push_lowercase_by_character-requires c = lower-rest _ _ c.utf8.text c.requires.ascii _ (rw c.in-Lower.is at c.requires.front)

pub range_from-requires : goal.range_from-requires
range_from-requires c = λ _. ascii-boundary c.args.case _ _ c.utf8.text c.requires.ascii

pub returns-in-Upper-clause-ok : goal.returns-in-Upper-clause-ok
returns-in-Upper-clause-ok c =
    let all = upper-rest _ _ c.utf8.text c.requires.ascii _ (rw c.in-Upper.is at c.requires.front) in
    rw c.in-Upper.is (on_ok_weaker c.push_mapped.result (λ e. e ∙ all) (rw (c.in-Upper.is, c.range_from.ensures.value) at c.push_mapped.ensures.ok))

pub returns-in-Upper-clause-refused : goal.returns-in-Upper-clause-refused
returns-in-Upper-clause-refused c =
    let all = upper-rest _ _ c.utf8.text c.requires.ascii _ (rw c.in-Upper.is at c.requires.front) in
    rw c.in-Upper.is
    (on_err_weaker c.push_mapped.result (λ heap. ap (λ b. b.kind) (sym all) ∙ heap) (rw (c.in-Upper.is, c.range_from.ensures.value) at c.push_mapped.ensures.refused))
