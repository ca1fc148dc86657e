use Rattle.smol_str.proofs.Common.{rules}
use Rattle.smol_str.proofs.TextLemmas.Places.{place_of-short, place_of-blank, place_of-heap, place-cases}
use Rattle.smol_str.proofs.laws.places.Goals as goal

pub returns : goal.returns
returns c = record {
  short = place_of-short;
  blank = place_of-blank;
  other = place_of-heap;
  inline_alone = λ t inline. let cases = place-cases t in search rules;
  static_alone = λ t static. let cases = place-cases t in search rules;
  heap_alone = λ t heap. let cases = place-cases t in search rules;
}
