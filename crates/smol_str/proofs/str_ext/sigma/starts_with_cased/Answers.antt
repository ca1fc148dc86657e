use Rattle.smol_str.proofs.Common.{refl, ◌∙◌}
use Rattle.smol_str.proofs.TextLemmas.Chars.{chars-empty}
use Rattle.std.proofs.lemmas.Str.{IsUtf8-past_char, chars_past_char}
use Rattle.smol_str.proofs.str_ext.sigma.starts_with_cased.Goals as goal

pub returns-in-Some-cased_unless_ignored : goal.returns-in-Some-cased_unless_ignored
returns-in-Some-cased_unless_ignored c =
    let held = c.loop-character.invariant in
    let step = chars_past_char _ _ c.in-Some.character held.0 c.in-Some.ensures.steps.0 in
    let found = c.in-Some-cased_unless_ignored.ensures in
    found.cased ∙ rw (step, found.counts) at held.1

pub loop-character-preserved : goal.loop-character-preserved
loop-character-preserved c =
    let held = c.loop-character.invariant in
    let parts = c.in-Some.ensures.steps.0 in (
      IsUtf8-past_char _ _ c.in-Some.character held.0 parts,
      rw (chars_past_char _ _ c.in-Some.character held.0 parts, c.in_default.ensures.ignored refl) at held.1,
    )

pub returns : goal.returns
returns c = rw (chars-empty _ c.in-None.ensures.steps.0.0) at c.loop-character.invariant.1
