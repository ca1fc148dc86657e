use Rattle.smol_str.proofs.Common.{chars, IsUtf8, ◌≡◌}
use Rattle.smol_str.proofs.TextLemmas.Chars.{chars-of}
use Rattle.smol_str.proofs.CaseLemmas.Ascii.{IsAscii-chars, ascii-told}
use Rattle.smol_str.proofs.value.SmolStr.is_ascii.Goals as goal

pub returns-in_default : goal.returns-in_default
returns-in_default c =
    let bytes = c.as_str.result.now in
    let utf8 : IsUtf8 bytes = c.as_str.utf8 in
    let text : chars bytes ≡ c.args.self.now.text = chars-of _ bytes utf8 c.as_str.ensures.bytes in
    let ascii = IsAscii-chars bytes utf8 in
    let cases = c.is_ascii-in_default.ensures.cases in
    rw (← text) (λ yes. ascii.0 (rw yes at cases), λ low. ascii-told _ bytes cases (ascii.1 low))
