use Rattle.smol_str.proofs.Common.{chars-nil}
use Rattle.smol_str.proofs.value.convert.SmolStrDefault.default.Goals as goal

pub returns : goal.returns
returns c = rw chars-nil at c.new_inline.ensures
