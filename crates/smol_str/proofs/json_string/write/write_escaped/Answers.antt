use Rattle.smol_str.proofs.Common.{◌≡◌, [], ◌∷◌, ◌++◌, rules, subst, IsUtf8}
use Rattle.json.specs.Print.{escape}
use Rattle.json.proofs.Printed.Utf8.{IsUtf8-quoted}
use Rattle.smol_str.proofs.JsonLemmas.{pieces}
use Rattle.smol_str.proofs.json_string.write.write_escaped.Goals as goal

pub from_utf8_unchecked-requires : goal.from_utf8_unchecked-requires
from_utf8_unchecked-requires c =
    let same : 34 ∷ (escape c.args.text.now ++ 34 ∷ []) ≡ c.push_reserved-2.new.self.items = search (rules, pieces) in
    subst IsUtf8 same (IsUtf8-quoted c.args.text.now c.utf8.text)
