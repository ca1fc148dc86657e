use Rattle.smol_str.proofs.Common.{◌<◌, ◌≤◌, ◌⊎◌, rules}
use Rattle.smol_str.proofs.JsonLemmas.Unescaped.{UnescapesAfterU-one, UnescapesAfterU-pair}
use Rattle.smol_str.proofs.json_string.read.split_code.Goals as goal

pub returns-in-Some-clause-unescapes : goal.returns-in-Some-clause-unescapes
returns-in-Some-clause-unescapes c =
    let far : (c.in_ok-unit.unit < 0xd800) ⊎ (0xe000 ≤ c.in_ok-unit.unit) = search rules in
    UnescapesAfterU-one _ _ _ _ c.in_ok-unit.ensures.unit (search rules) far

pub returns-clause-unescapes : goal.returns-clause-unescapes
returns-clause-unescapes c =
    UnescapesAfterU-pair _ _ _ _ _ _ _ _ c.in_ok-unit.ensures.unit c.in_ok-strip_ascii.ensures c.in_ok-second.ensures c.in_ok-low.ensures.unit
    c.in_ok-surrogate_pair.ensures
