use Rattle.std.proofs.lemmas.Str.{chars_past_char}
use Rattle.smol_str.proofs.TextLemmas.Chars.{chars-empty}
use Rattle.smol_str.proofs.CaseLemmas.Sigma.{lowering-boundary, lowering-rest, lowered-all}
use Rattle.smol_str.proofs.str_ext.sigma.push_lowercase_by_character.Goals as goal

pub range_from-requires : goal.range_from-requires
range_from-requires c = λ _. lowering-boundary _ c.utf8.text _ _ c.requires

pub loop-character-init : goal.loop-character-init
loop-character-init c =
    let rest = lowering-rest _ c.utf8.text _ _ c.requires in
    (rw c.chars-rest.ensures.rest c.range_from.utf8, rw (c.chars-rest.ensures.rest, c.range_from.ensures.value, rest) c.requires.front)

pub push_in_context-requires : goal.push_in_context-requires
push_in_context-requires c =
    let held = c.loop-character.invariant in
    rw c.as_str.ensures (rw (chars_past_char _ _ c.in-Some.character held.0 c.in-Some.ensures.steps.0) at held.1)

pub returns-clause-ok : goal.returns-clause-ok
returns-clause-ok c =
    lowered-all _ _ (rw (chars-empty _ c.in_default.ensures.steps.0.0) at c.loop-character.invariant.1)
