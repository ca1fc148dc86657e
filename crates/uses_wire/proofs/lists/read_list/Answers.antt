use Rattle.std.proofs.Common.{rules, ap, ◌∙◌}
use Rattle.smol_str.proofs.CallerLemmas.{one_read, all_read, texts-push}
use Rattle.smol_str.specs.Meaning.{texts}
use Rattle.uses_wire.proofs.ListLemmas.{not_read}
use Rattle.uses_wire.proofs.lists.read_list.Goals as goal

pub loop-i-preserved : goal.loop-i-preserved
loop-i-preserved c =
    one_read _ _ _ _ _ c.loop-i.invariant _ c.in_ok-value.value.text _ c.in_ok-value.ensures.form
    c.in_ok-value.ensures.sized
    (ap texts c.in_ok-push.ensures.items ∙ texts-push c.loop-i.values.items c.in_ok-value.value)

pub returns-clause-form : goal.returns-clause-form
returns-clause-form c = all_read _ _ _ _ _ c.loop-i.invariant c.loop-i-test.false (search rules)

pub returns-in_err-value-clause-fault : goal.returns-in_err-value-clause-fault
returns-in_err-value-clause-fault c =
    not_read _ _ _ _ _ c.loop-i.invariant (search rules) c.loop-i-test.true c.from_residual.result
    c.in_err-value.field-0.0 c.from_residual.ensures.1 c.in_err-value.ensures.fault
