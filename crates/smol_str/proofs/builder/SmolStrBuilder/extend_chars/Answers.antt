use Rattle.smol_str.proofs.Common.{IfOk-weaker}
use Rattle.std.proofs.lemmas.Result.{IfErr-weaker}
use Rattle.smol_str.proofs.BuilderLemmas.Collect.{all-appended, all-behind, stopped-behind}
use Rattle.smol_str.proofs.builder.SmolStrBuilder.extend_chars.Goals as goal

pub returns-in-None-clause-ok : goal.returns-in-None-clause-ok
returns-in-None-clause-ok g c =
    let (items, came, text) = c.in-None.ensures.drew in
    all-appended g.I.Iterator.next_gives c.args.iter (λ items. items) items c.args.self.now _ text (_, came)

pub returns-in-Some : goal.returns-in-Some
returns-in-Some g c =
    let steps = g.I.Iterator.next_gives in
    let (items, came, text) = c.in-Some.ensures.drew in
    let other = c.in-Some.other in
    record {
      ok =
          IfOk-weaker c.extend_rest.result _ _
          (λ _ all. all-behind steps c.args.iter items c.args.self.now _ _ text _ other came all) c.extend_rest.ensures.ok;
      stopped =
          IfErr-weaker c.extend_rest.result _ _
          (λ _ all. stopped-behind steps c.args.iter items c.args.self.now _ _ text _ other came all) c.extend_rest.ensures.stopped;
    }
