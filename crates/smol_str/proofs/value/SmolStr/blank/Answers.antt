use Rattle.smol_str.proofs.Common.{arith, rules, ap, size, ◌∙◌, IsBlankRun, blank_run, refl, sym}
use Rattle.smol_str.proofs.TextLemmas.Places.{place_of-blank}
use Rattle.smol_str.proofs.TextLemmas.Sizes.{size-chars}
use Rattle.smol_str.proofs.value.SmolStr.blank.Goals as goal

pub returns : goal.returns
returns c =
    let t = blank_run c.args.newlines c.args.spaces in
    let run : IsBlankRun t = record {
      newlines = c.args.newlines;
      spaces = c.args.spaces;
      few_newlines = c.requires.few_newlines;
      few_spaces = c.requires.few_spaces;
      reads = refl;
    } in
    let long = sym (size-chars _ c.blank_text-run.utf8) ∙ ap size c.blank_text-run.ensures.text in
    let place = place_of-blank t (λ short. omega (arith, short, c.if-run-le-INLINE_CAP.false, long)) run in
    search (rules, place)
