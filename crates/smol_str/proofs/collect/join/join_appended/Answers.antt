use Rattle.smol_str.proofs.BuilderLemmas.Join.{first-long, others-long}
use Rattle.smol_str.proofs.TextLemmas.Results.{OnErr-always}
use Rattle.smol_str.proofs.collect.join.join_appended.Goals as goal

pub returns-in_err-append_to-clause-refused : goal.returns-in_err-append_to-clause-refused
returns-in_err-append_to-clause-refused g c =
    OnErr-always c.from_residual-in_err-append_to.result _
    (first-long _ _ _ _ c.in_ok-builder.ensures.ok c.requires c.in_err-append_to.ensures.refused)

pub returns-in_err-append_others-clause-refused : goal.returns-in_err-append_others-clause-refused
returns-in_err-append_others-clause-refused g c =
    OnErr-always c.from_residual-in_err-append_others.result _
    (others-long _ _ _ _ c.in_ok-builder.ensures.ok c.requires _ c.in_ok-append_to.ensures.ok c.in_err-append_others.ensures.refused)
