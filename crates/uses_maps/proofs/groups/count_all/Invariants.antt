use Rattle.std.proofs.Common.{◌≡◌, take, fold, []}
use Rattle.smol_str.specs.Keys.{entry_texts}
use Rattle.smol_str.specs.Meaning.{texts}
use Rattle.uses_maps.specs.Names.{with_word}
use Rattle.uses_maps.proofs.groups.count_all.Given as goal

abbrev pub invariant-loop-word : goal.invariant-loop-word
invariant-loop-word l = entry_texts (λ n. n) l.counts.entries ≡ fold with_word [] (take l.word-index (texts l.words))
