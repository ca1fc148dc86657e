use Rattle.smol_str.proofs.CallerLemmas.{left-of_value, left-of_ended, left-of_refused}
use Rattle.uses_wire.proofs.MessageLemmas.{within, some_came}
use Rattle.uses_wire.proofs.next_message.Goals as goal

pub returns-in-Ok-clause-behind : goal.returns-in-Ok-clause-behind
returns-in-Ok-clause-behind c = left-of_value _ _ _ c.in-Ok.ensures.value.0 c.in-Ok.ensures.ok

pub returns-in-Err : goal.returns-in-Err
returns-in-Err c =
    let after = c.in-Err.ensures.fault in
    record {
      behind = tt;
      within = within _ _ _ after;
      ended = left-of_ended _ _ _ after;
      begun = some_came _ _ _ after;
      skipped = left-of_refused _ _ _ after;
    }
