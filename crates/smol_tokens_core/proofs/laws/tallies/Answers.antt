use Rattle.smol_tokens_core.proofs.TallyLemmas.{counts-tally, once-tally, tokens-longer}
use Rattle.smol_tokens_core.proofs.TableLemmas.{tally-again, times_of-tally}
use Rattle.smol_tokens_core.proofs.TokenLemmas.{times_of-seen_once}
use Rattle.smol_tokens_core.proofs.laws.tallies.Goals as goal

pub returns : goal.returns
returns c = record {
  taken_up_again = tally-again;
  counts = counts-tally;
  sums = times_of-tally;
  once = once-tally;
  of_texts = times_of-seen_once;
  old_tokens_first = tokens-longer;
}
