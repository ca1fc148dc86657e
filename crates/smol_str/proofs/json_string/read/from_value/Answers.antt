use Rattle.smol_str.proofs.Common.{◌∙◌, ap, sym}
use Rattle.serde_json.specs.View.{view}
use Rattle.smol_str.proofs.JsonLemmas.{view-chars, json_value-same}
use Rattle.smol_str.proofs.json_string.read.from_value.Goals as goal

pub returns-in_ok-from_string_ref-in-String-clause-of_text :
    goal.returns-in_ok-from_string_ref-in-String-clause-of_text
returns-in_ok-from_string_ref-in-String-clause-of_text c = λ t e.
    rw (← json_value-same _ t (sym (view-chars _) ∙ sym (ap view c.in-String.is) ∙ e)) c.in_ok-from_string_ref-in-String.ensures.ok
