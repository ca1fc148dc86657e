use Rattle.smol_str.proofs.CaseLemmas.Full.{two_capitals}
use Rattle.smol_str.proofs.CaseLemmas.Letters.{uppercase-sharp_s}
use Rattle.smol_str.proofs.str_ext.mapped.push_mapped_character.Goals as goal

pub returns-in-Upper-clause-ok : goal.returns-in-Upper-clause-ok
returns-in-Upper-clause-ok c =
    rw (c.in-Upper.is, uppercase-sharp_s _ c.if-character-eq223.true, ← two_capitals) c.push_str_heap_first.ensures.ok

pub returns-in-Upper-clause-refused : goal.returns-in-Upper-clause-refused
returns-in-Upper-clause-refused c =
    rw (c.in-Upper.is, uppercase-sharp_s _ c.if-character-eq223.true, ← two_capitals) c.push_str_heap_first.ensures.refused
