use Rattle.std.proofs.Common.{rules}
use Rattle.std.proofs.lemmas.Bool.{ne_eqb}
use Rattle.std.proofs.lemmas.List.Elements.{All-head}
use Rattle.smol_tokens_core.proofs.PieceLemmas.{lines-nil, lines-cons}
use Rattle.smol_tokens_core.proofs.laws.lines_from_left.Goals as goal

pub returns : goal.returns
returns c = record {
  empty = lines-nil;
  newline_ends_a_line = lines-cons 10;
  other_character = λ d t h. search (rules, lines-cons, ne_eqb, All-head);
}
