use Rattle.smol_str.proofs.CallerLemmas.{AreRead}
use Rattle.smol_str.specs.Meaning.{texts}
use Rattle.uses_wire.proofs.lists.read_list.Given as goal

abbrev pub invariant-loop-i : goal.invariant-loop-i
invariant-loop-i l = AreRead l.bytes l.count (texts l.values.items) l.rest l.i
