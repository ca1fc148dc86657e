use Rattle.smol_str.proofs.Common.{◌≡◌, encode_utf8_all, encodes-chars, rules}
use Rattle.smol_str.proofs.JsonLemmas.Unescaped.{Unescapes-plain}
use Rattle.smol_str.proofs.json_string.read.read_content.Goals as goal

pub loop-character-init : goal.loop-character-init
loop-character-init c =
    let same : encode_utf8_all c.push_with_spare.new.self.text ≡ c.args.plain.now = search (rules, encodes-chars) in
    (search rules, rw same (Unescapes-plain c.args.plain.now c.args.rest.now c.requires.plain))
