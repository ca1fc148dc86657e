use Rattle.uses_wire.proofs.MessageLemmas.{size_alone}
use Rattle.uses_wire.proofs.next_limited.Goals as goal

pub returns-clause-longer : goal.returns-clause-longer
returns-clause-longer c = size_alone _ _ _ _ c.deserialize_limited.ensures.fault
