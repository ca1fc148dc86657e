use Rattle.smol_str.proofs.Common.{◌≡◌, [], chars, rules}
use Rattle.smol_str.proofs.TextLemmas.Results.{OnErr-always}
use Rattle.smol_str.proofs.TextLemmas.Chars.{chars-empty}
use Rattle.smol_str.proofs.CaseLemmas.Full.{part-new, part-more, part-refused, part-all}
use Rattle.smol_str.proofs.str_ext.mapped.push_mapped.Goals as goal

pub push_part-requires-clause-new : goal.push_part-requires-clause-new
push_part-requires-clause-new c = part-new c.args.case _ _ _ _ c.loop-rest.invariant.1 c.requires

pub returns-in_err-rest-clause-refused : goal.returns-in_err-rest-clause-refused
returns-in_err-rest-clause-refused c =
    OnErr-always c.from_residual.result _ (part-refused c.args.case _ _ _ _ c.loop-rest.invariant.1 c.in_err-rest.ensures.refused)

pub loop-rest-preserved : goal.loop-rest-preserved
loop-rest-preserved c =
    (search rules, part-more c.args.case _ _ _ _ c.loop-rest.invariant.1 _ _ c.in_ok-rest.ensures.ok)

pub returns-clause-ok : goal.returns-clause-ok
returns-clause-ok c =
    let none : chars c.loop-rest.rest.now ≡ [] = search (rules, chars-empty) in
    part-all c.args.case _ _ _ _ c.loop-rest.invariant.1 none
