use Rattle.smol_str.proofs.Common.{bytes_decides, rules}
use Rattle.smol_str.proofs.TextLemmas.Chars.{bytes_eq-chars}
use Rattle.smol_str.proofs.value.SmolStr.eq_str.Goals as goal

pub returns-in-Inline : goal.returns-in-Inline
returns-in-Inline c = search (rules, bytes_eq-chars, bytes_decides)

pub returns-in_default : goal.returns-in_default
returns-in_default c = search (rules, bytes_eq-chars, bytes_decides)
