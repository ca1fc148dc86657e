-- A beginning of what is written in two parts: for `serialize`, which writes a size and then a text. And what a
-- reader gave that failed: for `stream`.
use Rattle.smol_str.proofs.Common.{ℕ, ◌+◌, ◌<◌, ◌≤◌, length, List, ◌++◌, Option, arith, append_assoc, length-append, Appends, Appends-trans, Consumes, Consumes-trans, rules}
use Rattle.smol_str.specs.Stream.{AppendsBeginning, GaveBelow, GaveUpTo}

module _ (first second : List ℕ) where
  pub beginning-of_first : (a b : Option (List ℕ)) → AppendsBeginning a b first
      → AppendsBeginning a b (first ++ second)
  beginning-of_first a b (front, rest, split, some, appended) =
      (front, rest ++ second, cc (split, append_assoc front rest second), omega (arith, length-append rest second), appended)

  pub beginning-of_second : (a b c : Option (List ℕ)) → Appends a b first → AppendsBeginning b c second
      → AppendsBeginning a c (first ++ second)
  beginning-of_second a b c p h = search (rules, arith, append_assoc, Appends-trans)

-- ---- reading

-- a reader that gave some bytes, and then fewer than there was room for
pub GaveBelow-after : (a b c : Option (List ℕ)) (bytes : List ℕ) (room n : ℕ) → Consumes a b bytes → GaveBelow b c room
    → length bytes + room ≤ n → GaveBelow a c n
GaveBelow-after a b c bytes room n consumed h within = search (rules, arith, length-append, Consumes-trans)

-- a reader that gave some bytes, and then some more
pub GaveUpTo-after : (a b c : Option (List ℕ)) (bytes more : List ℕ) (n : ℕ) → Consumes a b bytes
    → Consumes b c more → 0 < length more → length bytes + length more ≤ n → GaveUpTo a c n
GaveUpTo-after a b c bytes more n consumed then some within = search (rules, arith, length-append, Consumes-trans)
