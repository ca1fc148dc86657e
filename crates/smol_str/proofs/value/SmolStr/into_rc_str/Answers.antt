use Rattle.smol_str.proofs.Common.{encodes-chars, rules}
use Rattle.smol_str.proofs.TextLemmas.Chars.{IsUtf8-shared_bytes}
use Rattle.smol_str.proofs.value.SmolStr.into_rc_str.Goals as goal

pub returns-in-Heap-clause-ok : goal.returns-in-Heap-clause-ok
returns-in-Heap-clause-ok c = search (rules, encodes-chars, IsUtf8-shared_bytes)
