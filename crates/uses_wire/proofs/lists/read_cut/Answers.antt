use Rattle.uses_wire.proofs.ListLemmas.{not_whole}
use Rattle.uses_wire.proofs.lists.read_cut.Goals as goal

pub unreachable-requires : goal.unreachable-requires
unreachable-requires c =
    not_whole c.args.bytes.now _ _ _ _ c.in-Ok.ensures.listed c.requires.listed c.requires.cut c.requires.some
    c.in-Ok.ensures.form
