use Rattle.smol_str.proofs.TextLemmas.Chars.{chars-of}
use Rattle.smol_str.proofs.collect.piece.SmolStrPiece.lent.Goals as goal

pub returns : goal.returns
returns c = chars-of _ _ c.as_str.utf8 c.as_str.ensures.bytes
