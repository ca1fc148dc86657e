use Rattle.smol_str.proofs.Common.{◌*◌, ◌/◌, PACKED_LEN}
use Rattle.smol_str.specs.declared.bytes.ascii.TheConstants.{ASCII_LANES}
use Rattle.smol_str.proofs.CaseLemmas.Ascii.{IsAscii-packed, IsAscii-cut}
use Rattle.smol_str.proofs.buffer.InlineText.is_ascii.Goals as goal

pub returns : goal.returns
returns c =
    let cut = c.split_at.ensures in
    let all = IsAscii-cut (PACKED_LEN / ASCII_LANES * ASCII_LANES) _ _ _ cut.front cut.back _ _ c.is_all_ascii.ensures c.is_all_ascii-2.ensures in
    let text = rw c.self.view_is at (IsAscii-packed _ c.self.invariant) in
    (λ yes. text.0 (all.0 yes), λ low. all.1 (text.1 low))
