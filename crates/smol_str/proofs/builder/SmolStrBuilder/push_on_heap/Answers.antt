use Rattle.smol_str.proofs.Common.{chars-append, IsUtf8-string_bytes, arith, rules}
use Rattle.smol_str.proofs.TextLemmas.Results.{OnOk-if}
use Rattle.smol_str.proofs.TextLemmas.Chars.{chars-of}
use Rattle.smol_str.proofs.builder.SmolStrBuilder.push_on_heap.Goals as goal

pub returns-in-Heap-clause-ok : goal.returns-in-Heap-clause-ok
returns-in-Heap-clause-ok c = search (rules, arith, OnOk-if, chars-append, IsUtf8-string_bytes) fits 60

pub returns-in_ok-push_str-in-Inline-clause-ok : goal.returns-in_ok-push_str-in-Inline-clause-ok
returns-in_ok-push_str-in-Inline-clause-ok c = search (rules, arith, chars-append, chars-of) fits 60
