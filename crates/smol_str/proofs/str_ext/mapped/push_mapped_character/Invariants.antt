-- The builder is the first one with the letters so far, and the others, of which none is missing, are still to come.
use Rattle.smol_str.proofs.Common.{◌≡◌, ◌++◌, [], ◌∷◌, None, appended, mapped}
use Rattle.std.specs.Char.Iter.{case_mapping_first, case_mapping_second, case_mapping_third, case_mapping_chars}
use Rattle.smol_str.proofs.str_ext.mapped.push_mapped_character.Given as goal

abbrev pub invariant-loop-letter : goal.invariant-loop-letter
invariant-loop-letter l = (l.builder ≡ appended l.fn.builder l.yielded)
    × (l.yielded ++ case_mapping_chars l.letter-iterator ≡ mapped l.fn.case (l.fn.character ∷ []))
    × (case_mapping_first l.letter-iterator ≡ None → case_mapping_second l.letter-iterator ≡ None)
    × (case_mapping_second l.letter-iterator ≡ None → case_mapping_third l.letter-iterator ≡ None)
