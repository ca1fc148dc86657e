use Rattle.smol_str.proofs.CutLemmas.Replace.{replaced-cut, replaced-none, replaced-enough, replaced-itself, length-IsCut, match_count-limit}
use Rattle.smol_str.proofs.CutLemmas.Bytes.{replaced_all-character}
use Rattle.smol_str.proofs.laws.replacement.Goals as goal

pub returns : goal.returns
returns c = record {
  of_each_cut = replaced-cut;
  limit_zero = replaced-none;
  limit_beyond_matches = replaced-enough;
  by_itself = replaced-itself;
  pieces = length-IsCut;
  unlimited = match_count-limit;
  characters = replaced_all-character;
}
