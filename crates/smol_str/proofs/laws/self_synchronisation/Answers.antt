use Rattle.smol_str.proofs.CutLemmas.Sync.{StandsAt-bytes, bytes-StandsAt}
use Rattle.smol_str.proofs.laws.self_synchronisation.Goals as goal

pub returns : goal.returns
returns c = record { from_bytes = StandsAt-bytes; to_bytes = bytes-StandsAt }
