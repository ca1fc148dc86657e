use Rattle.smol_str.proofs.Common.{refl, ◌∙◌, rules}
use Rattle.std.specs.Char.{IsScalar}
use Rattle.smol_str.proofs.TextLemmas.Chars.{chars-empty}
use Rattle.smol_str.proofs.CaseLemmas.Sigma.{word_after-last, IsUtf8-before_last, chars-before_last}
use Rattle.smol_str.proofs.str_ext.sigma.is_in_word_after.Goals as goal

pub returns-in-Some-cased_unless_ignored : goal.returns-in-Some-cased_unless_ignored
returns-in-Some-cased_unless_ignored c =
    let held = c.loop-character.invariant in
    let scalar : IsScalar c.in-Some.character = search rules in
    let step = chars-before_last _ _ c.in-Some.character held.0 c.in-Some.ensures.steps scalar in
    let found = c.in-Some-cased_unless_ignored.ensures in
    found.cased ∙ rw (step, word_after-last, found.counts) at held.1

pub loop-character-preserved : goal.loop-character-preserved
loop-character-preserved c =
    let held = c.loop-character.invariant in
    let scalar : IsScalar c.in-Some.character = search rules in
    let step = chars-before_last _ _ c.in-Some.character held.0 c.in-Some.ensures.steps scalar in
    let ignored = c.in_default-cased_unless_ignored.ensures.ignored refl in
    (IsUtf8-before_last _ _ c.in-Some.character held.0 c.in-Some.ensures.steps scalar, rw (step, word_after-last, ignored) at held.1)

pub returns : goal.returns
returns c = rw (chars-empty _ c.in_default.ensures.steps.0) at c.loop-character.invariant.1
