use Rattle.std.proofs.Common.{rules, arith}
use Rattle.std.proofs.lemmas.List.{length-map}
use Rattle.smol_str.specs.Meaning.{texts}
use Rattle.uses_maps.proofs.PathLemmas.{whole_front}
use Rattle.uses_maps.proofs.paths.is_within.Goals as goal

pub returns : goal.returns
returns c =
    let front = c.common_front.ensures in
    let whole = whole_front (texts c.args.path.now) (texts c.args.folder.now) c.common_front.result in
    search (rules, arith, length-map, whole, front)
