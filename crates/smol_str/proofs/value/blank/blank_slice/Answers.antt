use Rattle.smol_str.proofs.Common.{arith, rules}
use Rattle.smol_str.proofs.TextLemmas.Blank.{first-blank}
use Rattle.smol_str.proofs.value.blank.blank_slice.Goals as goal

pub returns-then-byte-ne32-clause-run : goal.returns-then-byte-ne32-clause-run
returns-then-byte-ne32-clause-run c run = search (rules, arith, first-blank)
