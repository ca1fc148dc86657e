use Rattle.smol_tokens_core.proofs.TableLemmas.{tally-added, lookup-tally, tally-table}
use Rattle.smol_tokens_core.proofs.laws.tally_by_steps.Goals as goal

pub returns : goal.returns
returns c = record { added = tally-added; found = lookup-tally; without_repeats = tally-table }
