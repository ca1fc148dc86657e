-- For the laws of replacement: what replacing makes of a text.
use Rattle.smol_str.proofs.Common.{◌≡◌, ℕ, ◌+◌, ◌-◌, ◌<◌, ◌≤◌, suc, min, List, [], ◌∷◌, ◌++◌, false, length, refl, ap, arith, length-append, append-nil, nat_eq, starts_with, Occurs, IsFirstAfter, joined_by, IsCutAt, IsCut, cut, cut_at, no_limit, match_count, replaced, replaced_all, rules, common_steps}
use Rattle.std.proofs.lemmas.List.Concat.{concat_is}
use Rattle.smol_str.proofs.CutLemmas.Cut.{joined_one, joined_more, IsCut-cut, IsCutAt-cut, IsCutBetween-cut, IsCut-unique, IsCutAt-step, IsCutAt-unique, IsCutAt-unmatched, starts_with-nowhere}

pub replaced-cut : (t p w : List ℕ) (n : ℕ) (pieces : List (List ℕ)) → IsCut t p n pieces →
    replaced t p w n ≡ joined_by w pieces
replaced-cut t p w n pieces h = ap (joined_by w) (IsCut-unique t p n (cut t p n) pieces (IsCut-cut t p n) h)

pub replaced-none : (t p w : List ℕ) → replaced t p w 0 ≡ t
replaced-none t p w = search (rules, joined_one)

pub replaced-itself : (t p : List ℕ) (n : ℕ) → replaced t p p n ≡ t
replaced-itself t [] n = let h = (IsCutBetween-cut n t).joined in search (rules, concat_is)
replaced-itself t (c ∷ p) n = (IsCutAt-cut n (c ∷ p) t (omega arith)).joined

-- each piece but one has a match behind it
pub few_pieces : (p : List ℕ) (pieces : List (List ℕ)) → 0 < length p → length pieces ≤ length (joined_by p pieces) + 1
few_pieces p (q ∷ r ∷ rs) some = search (rules, arith, joined_more, length-append, few_pieces p (r ∷ rs) some)
few_pieces p pieces some = search rules

raised_at : (t p : List ℕ) (m n : ℕ) (pieces : List (List ℕ)) → length pieces < m + 1 → length pieces - 1 ≤ n →
    IsCutAt t p m pieces → IsCutAt t p n pieces
raised_at t p m n pieces few enough h = search (rules, arith)

-- the whole cut is the cut at each limit that it keeps
pub whole_cut : (t p : List ℕ) (n : ℕ) → match_count t p ≤ n → IsCut t p n (cut t p (no_limit t))
whole_cut t [] n enough = search (rules, arith, IsCutBetween-cut)
whole_cut t (c ∷ p) n enough =
    let h = IsCutAt-cut (no_limit t) (c ∷ p) t (omega arith) in search (rules, arith, few_pieces, h)

pub replaced-enough : (t p w : List ℕ) (n : ℕ) → match_count t p ≤ n → replaced t p w n ≡ replaced_all t p w
replaced-enough t p w n enough = replaced-cut t p w n (cut t p (no_limit t)) (whole_cut t p n enough)

-- for a body that replaces a match at a time
pub replaced-matched : (t p w q r : List ℕ) (n : ℕ) → t ≡ q ++ (p ++ r) → IsFirstAfter p q →
    replaced t p w (n + 1) ≡ q ++ (w ++ replaced r p w n)
replaced-matched t [] w q r n e none = absurd (none ([], q ++ [], refl))
replaced-matched t (c ∷ p) w q r n e none =
    let rest = IsCutAt-cut n (c ∷ p) r (omega arith) in
    let whole = replaced-cut t (c ∷ p) w (n + 1) (q ∷ cut r (c ∷ p) n)
    (IsCutAt-step t (c ∷ p) q r n _ e none rest) in
    search (rules, whole, joined_more, rest)

pub replaced-unmatched : (t p w : List ℕ) (n : ℕ) → ¬ Occurs p t → replaced t p w n ≡ t
replaced-unmatched t [] w n none = absurd (none ([], t, refl))
replaced-unmatched t (c ∷ p) w n none =
    search (rules, replaced-cut t (c ∷ p) w n (t ∷ []), IsCutAt-unmatched, joined_one)

-- a character at which no match begins
kept_at : (n c : ℕ) (p w t : List ℕ) → starts_with nat_eq (c ∷ t) p ≡ false →
    joined_by w (cut_at n p (c ∷ t)) ≡ c ∷ joined_by w (cut_at n p t)
kept_at n c p w t e = search rules

pub replaced-passed : (c : ℕ) (t p w : List ℕ) (n : ℕ) → ((r : List ℕ) → ¬ (c ∷ t ≡ p ++ r)) →
    replaced (c ∷ t) p w n ≡ c ∷ replaced t p w n
replaced-passed c t [] w n none = absurd (none (c ∷ t) refl)
replaced-passed c t (d ∷ p) w n none = kept_at n c (d ∷ p) w t (starts_with-nowhere (d ∷ p) (c ∷ t) none)

-- pieces that are fewer than the limit allows are those of the whole cut
few_are_whole : (t p : List ℕ) (n : ℕ) (xs : List (List ℕ)) → 0 < length p → IsCutAt t p n xs → length xs < n + 1
    → xs ≡ cut_at (no_limit t) p t
few_are_whole t p n xs some h few =
    let all = raised_at t p n (no_limit t) xs few (omega (arith, few_pieces p xs some, ap length h.joined)) h in
    IsCutAt-unique xs (cut_at (no_limit t) p t) t p (no_limit t) some all (IsCutAt-cut (no_limit t) p t some)

-- how many pieces there are
pub length-IsCut : (t p : List ℕ) (n : ℕ) (pieces : List (List ℕ)) → IsCut t p n pieces →
    length pieces ≡ min n (match_count t p) + 1
length-IsCut t [] n pieces h = omega (arith, h.count, (IsCutBetween-cut (no_limit t) t).count)
length-IsCut t (c ∷ p) n pieces h =
    let all = IsCutAt-cut (no_limit t) (c ∷ p) t (omega arith) in
    let few = few_are_whole t (c ∷ p) n pieces (omega arith) h in
    let enough = λ (m : match_count t (c ∷ p) ≤ n).
    IsCut-unique t (c ∷ p) n pieces (cut t (c ∷ p) (no_limit t)) h (whole_cut t (c ∷ p) n m) in
    grind (arith, few, enough, all.some, h.limited)

pub length-cut : (t p : List ℕ) (n : ℕ) → length (cut t p n) ≡ min n (match_count t p) + 1
length-cut t p n = length-IsCut t p n (cut t p n) (IsCut-cut t p n)

-- no text has more matches than its limit allows
pub match_count-limit : (t p : List ℕ) → match_count t p ≤ no_limit t
match_count-limit t p = omega (arith, length-cut t p (no_limit t))

-- the empty pattern, a character at a time
pub replaced-between : (c : ℕ) (t w : List ℕ) (n : ℕ) → replaced (c ∷ t) [] w (n + 1) ≡ w ++ (c ∷ replaced t [] w n)
replaced-between c t w n =
    let next : n + 1 ≡ suc n = omega arith in rw next (grind (arith, common_steps, joined_more, joined_one))

pub replaced-end : (w : List ℕ) (n : ℕ) → replaced [] [] w (n + 1) ≡ w
replaced-end w n = let next : n + 1 ≡ suc n = omega arith in rw next (search (rules, joined_more, append-nil))
