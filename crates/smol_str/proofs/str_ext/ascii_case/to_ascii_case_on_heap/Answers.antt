use Rattle.smol_str.proofs.Common.{rules}
use Rattle.smol_str.proofs.CaseLemmas.Ascii.{chars-converted}
use Rattle.smol_str.proofs.str_ext.ascii_case.to_ascii_case_on_heap.Goals as goal

pub returns : goal.returns
returns c = search (rules, chars-converted)
