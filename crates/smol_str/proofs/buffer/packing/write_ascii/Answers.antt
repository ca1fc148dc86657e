use Rattle.smol_str.proofs.Common.{◌≡◌, ℕ, List, ◌+◌, ◌<◌, ◌++◌, [], ◌∷◌, suc, length, take, drop, set, get_or, append_assoc, length-append, length-take-le, take-append-drop, drop-cons, set_at, arith, IsAscii-nil, IsAscii-push, put_at}
use Rattle.std.proofs.iter.Next.{said}
use Rattle.smol_str.proofs.buffer.packing.write_ascii.Goals as goal

-- one byte more
put-last : (old : List ℕ) (s n : ℕ) (xs : List ℕ) (x : ℕ) → n ≡ s + length xs → n < length old
    → set (put_at old s xs) n x ≡ put_at old s (xs ++ x ∷ [])
put-last old s n xs x is room =
    let rest = drop (suc n) old in
    let front : length (take s old ++ xs) ≡ n = omega (arith, length-append {A = ℕ}, length-take-le s old (omega arith)) in
    let parts : put_at old s xs ≡ (take s old ++ xs) ++ (get_or old n 0 ∷ rest) =
    cc (is, drop-cons old n 0 room, append_assoc (take s old) xs (get_or old n 0 ∷ rest)) in
    let end : suc n ≡ s + length (xs ++ x ∷ []) = omega (arith, length-append {A = ℕ}) in
    cc (
      parts,
      set_at (take s old ++ xs) (get_or old n 0) rest x n front,
      append_assoc (take s old) xs (x ∷ rest),
      append_assoc xs (x ∷ []) rest,
      end,
    )

pub loop-character-init : goal.loop-character-init
loop-character-init g c =
    let same : c.args.start ≡ c.args.start + 0 = omega arith in
    (IsAscii-nil, same, c.requires.room, cc (same, take-append-drop c.args.start c.args.buf.now))

pub loop-character-preserved : goal.loop-character-preserved
loop-character-preserved g c =
    let (low, is, room, put) = c.loop-character.invariant in
    let now = c.loop-character in
    let more = put-last c.args.buf.now c.args.start now.len now.yielded c.in-Some.character is (omega (arith, c.told-buf)) in
    (IsAscii-push _ _ low c.if-code-ge128.false, omega (arith, is, length-append {A = ℕ}), omega arith, cc (put, more))

pub returns-then-code-ge128-clause-drew : goal.returns-then-code-ge128-clause-drew
returns-then-code-ge128-clause-drew g c =
    let now = c.loop-character in
    (now.yielded, (now.iter, now.yielded_by, c.in-Some.ensures.steps), now.invariant.0, now.invariant.1, now.invariant.3)

pub returns-clause-drew : goal.returns-clause-drew
returns-clause-drew g c =
    let now = c.loop-character in
    (now.yielded, (now.iter, now.yielded_by, said g.I.Iterator.next_gives {t = c.next.new.self} (cc) c.next.ensures.steps), now.invariant.0, now.invariant.1, now.invariant.3)
