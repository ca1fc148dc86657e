use Rattle.std.proofs.Common.{[], append-nil, ◌∙◌}
use Rattle.uses_wire.proofs.ListLemmas.{one_begins}
use Rattle.uses_wire.proofs.lists.read_known.Goals as goal

pub unreachable-requires : goal.unreachable-requires
unreachable-requires c =
    let told = rw c.in-Err-Ended.field-0-is at c.in-Err-Ended.ensures.fault in
    told (one_begins _ _ _ c.requires.sized c.as_str-text.ensures.scalars c.requires.written)

pub unreachable-requires-in-Err-NotUtf8 : goal.unreachable-requires-in-Err-NotUtf8
unreachable-requires-in-Err-NotUtf8 c =
    let told = rw c.in-Err-NotUtf8.field-0-is at c.in-Err-NotUtf8.ensures.fault in
    let is = append-nil c.args.bytes.now ∙ c.requires.written in
    told [] (one_begins _ _ _ c.requires.sized c.as_str-text.ensures.scalars is)
