-- A text cut at a pattern: the pieces between the matches.
--     Occurs p t               p occurs in t
--     StandsAt p t i           p occurs in t after a prefix of i bytes
--     IsFirstAfter p q         in q followed by p, the first match of p is at the end
--     joined_by p pieces       the pieces in a row, with p between each two
--     IsCut t p n pieces       the pieces of t, cut at p at most n times
--     IsOnlyCut t p n pieces   these are the pieces, and no others are
--     IsNextMatch a b p i      in a followed by b, the first p that begins in b has i bytes before it
--     but_last xs              xs without its last item
-- The last item of xs, as an option, is std's `last_or None xs`.
use Rattle.std.specs.Prelude.{◌≡◌, ℕ, ◌+◌, ◌<◌, ◌≤◌, min, List, [], ◌∷◌, ◌++◌, ⊤, length, None, All, IfSome}
use Rattle.std.specs.List.{concat, join_by, last_or}
use Rattle.smol_str.specs.Text.{size}

-- t = a ++ p ++ r for some a and r
abbrev pub Occurs : List ℕ → List ℕ → Type 0
Occurs p t = (a : List ℕ) × (r : List ℕ) × (t ≡ a ++ (p ++ r))

-- t = a ++ p ++ r for some a of i bytes and some r
abbrev pub StandsAt : List ℕ → List ℕ → ℕ → Type 0
StandsAt p t i = (a : List ℕ) × (r : List ℕ) × (t ≡ a ++ (p ++ r)) × (size a ≡ i)

-- all items but the last
abbrev pub but_last : {X : Type 0} → List X → List X
but_last [] = []
but_last (x ∷ []) = []
but_last (x ∷ y ∷ rest) = x ∷ but_last (y ∷ rest)

-- p does not occur in q followed by all of p but its last character
abbrev pub IsFirstAfter : List ℕ → List ℕ → Type 0
IsFirstAfter p q = ¬ Occurs p (q ++ but_last p)

-- the first match of p in b, where i counts the bytes of a too
pub record IsNextMatch (a b p : List ℕ) (i : ℕ) : Type 0 where
  pub before : List ℕ
  pub after : List ℕ
  pub reads : b ≡ before ++ (p ++ after)
  pub index : size (a ++ before) ≡ i
  pub first : IsFirstAfter p before

-- `pieces.join(p)`
abbrev pub joined_by : List ℕ → List (List ℕ) → List ℕ
joined_by p pieces = join_by (λ q. q) p pieces

-- cut at a pattern that is not empty: at its matches from the left, at most n, and fewer only where none is left
pub record IsCutAt (t p : List ℕ) (n : ℕ) (pieces : List (List ℕ)) : Type 0 where
  pub some : 1 ≤ length pieces
  pub limited : length pieces ≤ n + 1
  pub joined : joined_by p pieces ≡ t
  pub first : All (λ q. IsFirstAfter p q) (but_last pieces)
  pub complete : length pieces < n + 1 → IfSome (last_or None pieces) (λ q. ¬ Occurs p q)

-- the empty piece, then pieces of one character each, then a last piece
abbrev pub IsSpelled : List (List ℕ) → Type 0
IsSpelled [] = ⊤
IsSpelled (q ∷ pieces) = (q ≡ []) × All (λ r. length r ≡ 1) (but_last pieces)

-- cut at the empty pattern, which matches before each character and at the end
pub record IsCutBetween (t : List ℕ) (n : ℕ) (pieces : List (List ℕ)) : Type 0 where
  pub count : length pieces ≡ min n (length t + 1) + 1
  pub joined : concat pieces ≡ t
  pub spelled : 0 < min n (length t + 1) → IsSpelled pieces

-- cut at a pattern at most n times
abbrev pub IsCut : List ℕ → List ℕ → ℕ → List (List ℕ) → Type 0
IsCut t [] n pieces = IsCutBetween t n pieces
IsCut t (c ∷ p) n pieces = IsCutAt t (c ∷ p) n pieces

-- and it can be cut in no other way
abbrev pub IsOnlyCut : List ℕ → List ℕ → ℕ → List (List ℕ) → Type 0
IsOnlyCut t p n pieces = IsCut t p n pieces × ((others : List (List ℕ)) → IsCut t p n others → others ≡ pieces)
