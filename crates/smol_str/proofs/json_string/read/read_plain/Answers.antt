use Rattle.smol_str.proofs.Common.{◌≡◌, ◌++◌, encode_utf8_all, encodes-append, encodes-chars, rules}
use Rattle.smol_str.proofs.JsonLemmas.Unescaped.{Unescapes-more, Unescapes-plain}
use Rattle.smol_str.proofs.json_string.read.read_plain.Goals as goal

pub returns-clause-unescapes : goal.returns-clause-unescapes
returns-clause-unescapes c = λ whole h.
    let plain = c.split_plain.result.0.now in
    let rest = c.split_plain.result.1.now in
    let cut = c.split_plain.ensures in
    let bytes : encode_utf8_all c.push_with_spare.new.self.text ≡ encode_utf8_all c.args.builder.now.text ++ plain = search (rules, encodes-append, encodes-chars) in
    rw bytes (Unescapes-more whole _ c.args.text.now plain rest h (rw cut.whole (Unescapes-plain plain rest cut.plain)))
