use Rattle.smol_str.proofs.Common.{Lower, Upper}
use Rattle.smol_str.proofs.CaseLemmas.Full.{full-ascii, full-front}
use Rattle.smol_str.proofs.laws.full_case.Goals as goal

pub returns : goal.returns
returns c = record {
  lower_front = full-front Lower;
  upper_front = full-front Upper;
  lower_ascii = full-ascii Lower;
  upper_ascii = full-ascii Upper;
}
