use Rattle.smol_str.proofs.Common.{encodes_same, chars-encodes}
use Rattle.smol_str.proofs.BufferLemmas.Packed.{padded-same}
use Rattle.smol_str.proofs.laws.texts.Goals as goal

pub returns : goal.returns
returns c = record { one_text = encodes_same; back = chars-encodes; buffers = padded-same }
