use Rattle.smol_str.proofs.CutLemmas.Replace.{replaced-matched, replaced-unmatched, replaced-passed, replaced-between, replaced-end}
use Rattle.smol_str.proofs.laws.replacement_by_steps.Goals as goal

pub returns : goal.returns
returns c = record {
  matched = replaced-matched;
  unmatched = replaced-unmatched;
  passed = replaced-passed;
  between = replaced-between;
  end = replaced-end;
}
