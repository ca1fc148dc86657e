-- For the laws of lines and for the first line: what the lines of a text are, and how they give the text back.
use Rattle.std.proofs.Common.{◌≡◌, ℕ, ◌<◌, ◌==◌, List, [], ◌∷◌, ◌++◌, Bool, false, cond, ◌⊎◌, rules, length, refl, arith, append_assoc, append-nil}
use Rattle.std.specs.Prelude.{All}
use Rattle.std.specs.List.{onto_first}
use Rattle.std.proofs.lemmas.Bool.{eqb-false, ne_eqb}
use Rattle.std.proofs.lemmas.List.Elements.{All-nil, All-cons, All-weaker, All-head, All-tail}
use Rattle.std.proofs.lemmas.List.Splits.{slice_split_at, slice_split_none, length-slice_split}
use Rattle.smol_str.specs.Cut.{joined_by}
use Rattle.smol_str.specs.Replace.{cut, no_limit}
use Rattle.smol_str.proofs.CallerLemmas.{joined_more, IsCut-cut}
use Rattle.smol_tokens_core.specs.Lines.{is_newline, newline, lines, without_empty_last, HasNoNewline, ended}
use Rattle.smol_tokens_core.proofs.PieceLemmas.{lines-pieces, lines-nil, lines-cons}

-- a piece before others is not the last
before : (q : List ℕ) (pieces : List (List ℕ)) → 0 < length pieces
    → without_empty_last (q ∷ pieces) ≡ q ∷ without_empty_last pieces
before q pieces some = search rules

-- what comes before the first newline is the first line
pub lines-first : (q t : List ℕ) → All (λ c. is_newline c ≡ false) q → lines (q ++ 10 ∷ t) ≡ q ∷ lines t
lines-first q t none = search (rules, arith, length-slice_split, lines-pieces, slice_split_at, before)

-- without a newline the text is the one line, if it is not empty
pub lines-last : (q : List ℕ) → All (λ c. is_newline c ≡ false) q → lines q ≡ without_empty_last (q ∷ [])
lines-last q none = search (rules, lines-pieces, slice_split_none)

pub none_newline : (q : List ℕ) → HasNoNewline q → All (λ c. is_newline c ≡ false) q
none_newline q h = search (rules, All-weaker, ne_eqb)

-- lines that were written are read again, and an unfinished one counts where it is not empty
pub lines-ended : (qs : List (List ℕ)) (q : List ℕ) → All HasNoNewline qs → HasNoNewline q
    → lines (ended qs ++ q) ≡ qs ++ without_empty_last (q ∷ [])
lines-ended [] q h k = lines-last q (none_newline q k)
lines-ended (r ∷ rs) q h k =
    search (rules, append_assoc, lines-first, none_newline, All-head, lines-ended rs q (All-tail HasNoNewline r rs h) k)

-- no line has a newline
no_newline_step : (c : ℕ) (qs : List (List ℕ)) → (b : Bool) → (c == 10) ≡ b → All HasNoNewline qs
    → All HasNoNewline (cond b ([] ∷ qs) (onto_first c qs))
no_newline_step c (q ∷ qs) false e h =
    All-cons HasNoNewline (c ∷ q) qs (search (rules, All-cons, eqb-false, All-head)) (All-tail HasNoNewline q qs h)
no_newline_step c qs b e h = search (rules, All-cons, eqb-false, All-nil)

pub HasNoNewline-lines : (t : List ℕ) → All HasNoNewline (lines t)
HasNoNewline-lines [] = rw lines-nil (All-nil HasNoNewline)
HasNoNewline-lines (c ∷ t) = rw (lines-cons c t) (no_newline_step c (lines t) (c == 10) refl (HasNoNewline-lines t))

-- an empty last piece that is left out costs one pattern
abbrev GivesBack : List ℕ → List (List ℕ) → List ℕ → Type 0
GivesBack p qs t = (joined_by p qs ≡ t) ⊎ (joined_by p qs ++ p ≡ t)

joined_kept : (p : List ℕ) (qs : List (List ℕ)) → GivesBack p (without_empty_last qs) (joined_by p qs)
joined_kept p (q ∷ r ∷ s ∷ ss) = search (rules, arith, joined_more, append_assoc, joined_kept p (r ∷ s ∷ ss))
joined_kept p qs = search (rules, append-nil)

pub joined-lines : (t : List ℕ) → (joined_by newline (lines t) ≡ t) ⊎ (joined_by newline (lines t) ++ newline ≡ t)
unfolding lines
joined-lines t =
    let pieces = cut t newline (no_limit t) in
    search (rules, arith, joined_kept newline pieces, (IsCut-cut t newline (no_limit t)).joined)
