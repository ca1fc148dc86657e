use Rattle.smol_str.proofs.Common.{arith, common_steps, subst, IsUtf8}
use Rattle.json.proofs.Printed.Utf8.{IsUtf8-quoted}
use Rattle.smol_str.proofs.json_string.write.write_plain.Goals as goal

pub from_utf8_unchecked-requires : goal.from_utf8_unchecked-requires
from_utf8_unchecked-requires c = subst IsUtf8 (grind (arith, common_steps)) (IsUtf8-quoted c.args.text.now c.utf8.text)
