use Rattle.smol_str.proofs.JsonLemmas.Unescaped.{Unescapes-letter, Unescapes-u}
use Rattle.smol_str.proofs.json_string.read.split_escape.Goals as goal

pub returns-then-letter-eq117-clause-unescapes : goal.returns-then-letter-eq117-clause-unescapes
returns-then-letter-eq117-clause-unescapes c =
    Unescapes-u _ _ _ _ _ _ c.in_ok-strip_ascii.ensures c.in_ok-letter.ensures.some c.if-letter-eq117.true c.in_ok-character.ensures.unescapes

pub returns-clause-unescapes : goal.returns-clause-unescapes
returns-clause-unescapes c =
    Unescapes-letter _ _ _ _ _ c.in_ok-strip_ascii.ensures c.in_ok-letter.ensures.some c.in_ok-character_of_letter.ensures.letter
    c.in_ok-character_of_letter.ensures.ascii
