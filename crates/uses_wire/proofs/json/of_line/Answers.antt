use Rattle.std.proofs.Common.{◌∷◌, [], refl}
use Rattle.std.proofs.lemmas.Str.{encodes-chars}
use Rattle.uses_wire.proofs.json.of_line.Goals as goal

pub of_plain-requires : goal.of_plain-requires
of_plain-requires c =
    let bytes = encodes-chars c.args.text.now c.utf8.text in
    record { json = (c.requires.plain, (32 ∷ [], 10 ∷ [], refl, refl, cc (bytes))) }
