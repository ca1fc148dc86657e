use Rattle.smol_str.proofs.Common.{arith, chars-IsAscii, rules}
use Rattle.smol_str.proofs.TextLemmas.Blank.{IsAscii-blank_run, slice-blank_run, blank_boundary}
use Rattle.smol_str.proofs.value.blank.blank_text.Goals as goal
use Rattle.smol_str.specs.declared.value.blank.TheConstants.{BLANK_NEWLINES, BLANK_SPACES}

pub range-requires-clause-start_boundary : goal.range-requires-clause-start_boundary
range-requires-clause-start_boundary c = λ _. blank_boundary _ _ c.blank_constant.ensures (omega arith)

pub range-requires-clause-end_boundary : goal.range-requires-clause-end_boundary
range-requires-clause-end_boundary c = blank_boundary _ _ c.blank_constant.ensures (omega arith)

pub returns : goal.returns
returns c =
    let slice = slice-blank_run BLANK_NEWLINES BLANK_SPACES c.args.newlines c.args.spaces (omega arith) (omega arith) in
    search (rules, slice, chars-IsAscii, IsAscii-blank_run)
