use Rattle.smol_str.proofs.Common.{arith, common_steps, rules, refl}
use Rattle.smol_str.proofs.CutLemmas.Match.{StandsAt-parts, found-boundaries, some_exact, some_not_none, none_not_some, none_exact, nowhere, is_first, parts}
use Rattle.smol_str.proofs.kernel.next_match.Goals as goal

pub returns-in_err-found : goal.returns-in_err-found
returns-in_err-found c =
    let found = rw (c.bytes_from.ensures, c.as_bytes.ensures.value, c.in_err-found.was) at c.find.ensures in
    record {
      first = rw c.from_residual.ensures (nowhere _ _ _ c.utf8.text c.utf8.pattern c.requires.not_empty c.requires.boundary found);
      parts = search rules;
      found = none_not_some _ _ _ c.utf8.text c.utf8.pattern c.from_residual.result c.from_residual.ensures found;
      none = none_exact _ _ _ c.utf8.text c.utf8.pattern c.from_residual.result c.from_residual.ensures found;
      synchronised = StandsAt-parts _ _ c.utf8.text c.utf8.pattern c.requires.not_empty;
      within = search rules;
      boundaries = search rules;
    }

pub returns : goal.returns
returns c =
    let found = rw (c.bytes_from.ensures, c.as_bytes.ensures.value, c.in_ok-found.was) at c.find.ensures in
    let at = c.in_ok-found.found in
    let some = c.requires.not_empty in
    record {
      first = is_first _ _ _ c.utf8.text c.utf8.pattern some c.requires.boundary at found _ refl;
      parts = parts _ _ _ c.utf8.text c.utf8.pattern some c.requires.boundary at found _ refl;
      found = some_exact _ _ _ c.utf8.text c.utf8.pattern some at found;
      none = some_not_none _ _ _ c.utf8.text c.utf8.pattern some at found;
      synchronised = StandsAt-parts _ _ c.utf8.text c.utf8.pattern some;
      within = grind (arith, common_steps);
      boundaries = found-boundaries _ _ c.utf8.text c.utf8.pattern some _ _ (search rules) found;
    }
