use Rattle.uses_maps.proofs.ReportLemmas.{no_memory}
use Rattle.uses_maps.proofs.reports.append_report.Goals as goal

pub returns-clause-memory : goal.returns-clause-memory
returns-clause-memory g c = no_memory _ _ _ _ _ _ c.run_with_hasher.ensures.fault
