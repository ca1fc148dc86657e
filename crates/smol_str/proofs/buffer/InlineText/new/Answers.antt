use Rattle.smol_str.proofs.Common.{chars-nil}
use Rattle.smol_str.proofs.buffer.InlineText.new.Goals as goal

pub returns : goal.returns
returns c = chars-nil
