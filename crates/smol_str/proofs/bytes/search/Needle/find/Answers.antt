use Rattle.smol_str.proofs.bytes.search.Needle.find.Goals as goal

pub returns-in-Two : goal.returns-in-Two
returns-in-Two c = rw c.in-Two.is c.find_two.ensures

pub returns-in-Long : goal.returns-in-Long
returns-in-Long c = rw c.in-Long.is c.find.ensures
