use Rattle.smol_str.proofs.Common.{rules}
use Rattle.smol_str.proofs.TextLemmas.Places.{place_of-blank, not_resident, IsBlankRun-chars}
use Rattle.smol_str.proofs.TextLemmas.Sizes.{size-chars}
use Rattle.smol_str.proofs.value.SmolStr.resident.Goals as goal

pub returns-in_err-blank_slice : goal.returns-in_err-blank_slice
returns-in_err-blank_slice c = search (rules, not_resident)

pub returns : goal.returns
returns c = search (rules, size-chars, place_of-blank, IsBlankRun-chars)
