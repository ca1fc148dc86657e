use Rattle.smol_str.proofs.Common.{rules, same_from_decides}
use Rattle.smol_str.proofs.TextLemmas.Chars.{stands_for-text}
use Rattle.smol_str.proofs.value.compare.RefStrEquivalentSmolStr.equivalent.Goals as goal

pub returns : goal.returns
returns c = search (rules, same_from_decides, stands_for-text)
