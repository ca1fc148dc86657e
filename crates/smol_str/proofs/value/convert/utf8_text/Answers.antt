use Rattle.smol_str.proofs.Common.{IsUtf8-from_ascii}
use Rattle.smol_str.proofs.value.convert.utf8_text.Goals as goal

pub from_utf8_unchecked-requires : goal.from_utf8_unchecked-requires
from_utf8_unchecked-requires c = IsUtf8-from_ascii c.args.bytes.now (c.is_all_ascii.ensures.0 c.if-is_all_ascii.true)
