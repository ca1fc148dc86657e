use Rattle.smol_str.proofs.Common.{◌∷◌, [], sym}
use Rattle.smol_str.proofs.TextLemmas.Results.{OnErr-always}
use Rattle.smol_str.proofs.CaseLemmas.Full.{part-heap}
use Rattle.std.proofs.lemmas.Str.{chars_past_char}
use Rattle.smol_str.proofs.str_ext.mapped.push_part.Goals as goal

pub returns-in_err-push_mapped_character-clause-refused : goal.returns-in_err-push_mapped_character-clause-refused
returns-in_err-push_mapped_character-clause-refused c =
    let step = chars_past_char _ _ c.in-Some.character c.utf8.text (rw c.chars-characters.ensures.rest at c.in-Some.ensures.steps.0) in
    OnErr-always c.from_residual.result _
    (part-heap c.args.case c.args.builder.now (c.in-Some.character ∷ []) _ _ (sym step) c.in_err-push_mapped_character.ensures.refused)

pub returns-clause-ok : goal.returns-clause-ok
returns-clause-ok c =
    let step = chars_past_char _ _ c.in-Some.character c.utf8.text (rw c.chars-characters.ensures.rest at c.in-Some.ensures.steps.0) in
    rw c.as_str.ensures record { first = c.in-Some.character ∷ []; whole = sym step; put = c.in_ok-push_mapped_character.ensures.ok }
