use Rattle.smol_str.proofs.Common.{◌∙◌, ap, chars, IsUtf8-from_ascii, chars-IsAscii}
use Rattle.smol_str.proofs.bytes.ascii.ascii_text.Goals as goal

pub from_utf8_unchecked-requires : goal.from_utf8_unchecked-requires
from_utf8_unchecked-requires c = IsUtf8-from_ascii c.args.byte.now c.requires

pub returns : goal.returns
returns c = ap chars c.from_utf8_unchecked.ensures ∙ chars-IsAscii c.args.byte.now c.requires
