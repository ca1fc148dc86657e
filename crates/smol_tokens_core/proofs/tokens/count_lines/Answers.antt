use Rattle.std.proofs.Common.{rules}
use Rattle.smol_tokens_core.proofs.FaultLemmas.{no_report-refused}
use Rattle.smol_tokens_core.proofs.TokenLemmas.{some_counts}
use Rattle.smol_tokens_core.proofs.tokens.count_lines.Goals as goal

pub returns-in_err-write_counts-clause-fault : goal.returns-in_err-write_counts-clause-fault
returns-in_err-write_counts-clause-fault g c = search (rules, no_report-refused, some_counts)
