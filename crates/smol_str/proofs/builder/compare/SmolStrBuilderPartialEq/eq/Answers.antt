use Rattle.smol_str.proofs.Common.{bytes_decides, rules}
use Rattle.smol_str.proofs.TextLemmas.Chars.{bytes_eq-texts}
use Rattle.smol_str.proofs.builder.compare.SmolStrBuilderPartialEq.eq.Goals as goal

pub returns : goal.returns
returns c = search (rules, bytes_eq-texts, bytes_decides)
