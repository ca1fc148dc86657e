use Rattle.smol_str.proofs.Common.{rules}
use Rattle.smol_str.proofs.TextLemmas.Chars.{chars-one}
use Rattle.smol_str.proofs.builder.SmolStrBuilder.push.Goals as goal

pub returns-then-push_in_buffer-2-clause-ok : goal.returns-then-push_in_buffer-2-clause-ok
returns-then-push_in_buffer-2-clause-ok c =
    let is = chars-one c.args.character c.encode_utf8.result.now c.encode_utf8.utf8 c.encode_utf8.ensures.value in
    search (rules, is)

pub push_wide_on_heap-requires : goal.push_wide_on_heap-requires
push_wide_on_heap-requires c =
    let is = chars-one c.args.character c.encode_utf8.result.now c.encode_utf8.utf8 c.encode_utf8.ensures.value in
    search (rules, is)
