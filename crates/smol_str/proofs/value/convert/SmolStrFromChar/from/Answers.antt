use Rattle.smol_str.proofs.TextLemmas.Sizes.{IsShort-one}
use Rattle.smol_str.proofs.value.convert.SmolStrFromChar.from.Goals as goal

pub from_inline-requires : goal.from_inline-requires
from_inline-requires c = rw c.from_char.ensures (IsShort-one c.args.character)
