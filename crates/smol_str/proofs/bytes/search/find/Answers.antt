use Rattle.smol_str.proofs.bytes.search.find.Goals as goal

pub returns-in_err-first : goal.returns-in_err-first
returns-in_err-first c = rw c.from_residual.ensures (c.first_byte.ensures.none c.in_err-first.was)
