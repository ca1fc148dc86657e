-- For the laws of lines: std's `split` at newlines gives the unlimited cut, and so the lines from the left.
use Rattle.std.proofs.Common.{◌≡◌, ℕ, ◌<◌, ◌==◌, zero, suc, List, [], ◌∷◌, cond, Option, unwrap_or, rules, length, refl, ap, arith}
use Rattle.std.specs.Prelude.{option_map}
use Rattle.std.specs.List.{onto_first, slice_split}
use Rattle.std.proofs.lemmas.Bool.{cases_eq, ne_eqb}
use Rattle.std.proofs.lemmas.List.Splits.{length-slice_split}
use Rattle.smol_str.specs.Cut.{IsCut}
use Rattle.smol_str.specs.Replace.{cut_at, no_limit}
use Rattle.smol_str.proofs.CallerLemmas.{IsCut-cut, IsCut-unique}
use Rattle.smol_tokens_core.specs.Lines.{is_newline, newline, lines, without_empty_last}

-- a character in front of a text goes to its first piece, also where a first match is looked for
module _ (c n : ℕ) (t : List ℕ) where
  onto : (found : Option (List ℕ × List ℕ))
      → unwrap_or (option_map (λ (m : List ℕ × List ℕ). (c ∷ m.0) ∷ cut_at n newline m.1) found) ((c ∷ t) ∷ [])
      ≡ onto_first c (unwrap_or (option_map (λ (m : List ℕ × List ℕ). m.0 ∷ cut_at n newline m.1) found) (t ∷ []))
  onto found = search rules

cut-pieces : (t : List ℕ) (n : ℕ) → length t < n → cut_at n newline t ≡ slice_split is_newline t
cut-pieces t zero l = absurd (omega arith)
cut-pieces [] (suc n) l = refl
cut-pieces (c ∷ t) (suc n) l =
    let next = cut-pieces t n (omega arith) in
    search (rules, cases_eq c 10, ne_eqb, onto, next, cut-pieces t (suc n) (omega arith))

pub lines-pieces : (t : List ℕ) → lines t ≡ without_empty_last (slice_split is_newline t)
unfolding lines
lines-pieces t = ap without_empty_last (cut-pieces t (no_limit t) (omega arith))

-- each cut without a limit is the pieces, since a text has one
pub lines-IsCut : (t : List ℕ) (pieces : List (List ℕ)) → IsCut t newline (no_limit t) pieces
    → lines t ≡ without_empty_last pieces
unfolding lines
lines-IsCut t pieces h =
    rw (IsCut-unique t newline (no_limit t) _ pieces (IsCut-cut t newline (no_limit t)) h)

-- the lines of a text by those of its tail
pub lines-nil : lines [] ≡ []
lines-nil = lines-pieces []

pub lines-cons : (c : ℕ) (t : List ℕ) → lines (c ∷ t) ≡ cond (c == 10) ([] ∷ lines t) (onto_first c (lines t))
unfolding lines
lines-cons c t = search (rules, arith, cut-pieces, length-slice_split)
