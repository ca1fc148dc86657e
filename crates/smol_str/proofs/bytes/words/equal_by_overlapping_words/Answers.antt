use Rattle.smol_str.proofs.Common.{◌≡◌, ◌≤◌, ◌+◌, ◌-◌, length, take, take-take, ap, arith, refl, rules}
use Rattle.smol_str.specs.Words.{word}
use Rattle.smol_str.proofs.BufferLemmas.Words.{AreBytes, same-last, same_from, more-same}
use Rattle.smol_str.proofs.bytes.words.equal_by_overlapping_words.Goals as goal

pub returns-then-len-le16 : goal.returns-then-len-le16
returns-then-len-le16 c =
    let xs = c.args.left.now in
    let ys = c.args.right.now in
    let xb : AreBytes xs = search rules in
    let yb : AreBytes ys = search rules in
    let long : length xs ≡ length ys = c.requires.long in
    let some : 8 ≤ length xs = c.requires.least in
    same_from c.equal_word_pairs.result xs ys
    (λ found.
    let words = c.equal_word_pairs.ensures.0 found in
    let front = more-same xs ys 0 xb yb some (omega (arith, some, long)) refl words.0 in
    same-last xs ys 8 (length xs - 8) xb yb long (omega (arith, some)) (omega (arith, c.if-len-le16.true)) front words.1)
    (λ e. c.equal_word_pairs.ensures.1 (ap (λ l. word 8 l 0) e, ap (λ l. word 8 l (length xs - 8)) e))

pub returns : goal.returns
returns c =
    let xs = c.args.left.now in
    let ys = c.args.right.now in
    let xb : AreBytes xs = search rules in
    let yb : AreBytes ys = search rules in
    let long : length xs ≡ length ys = c.requires.long in
    let some : 16 ≤ length xs = omega (arith, c.if-len-le16.false) in
    let at = length xs - 16 in
    let last = length xs - 8 in
    let near : at ≤ 16 = omega (arith, c.requires.most) in
    let first = c.equal_word_pairs-2.ensures.0 c.if-not-equal_word_pairs.false in
    let eight = more-same xs ys 0 xb yb (omega (arith, some)) (omega (arith, some, long)) refl first.0 in
    let front = more-same xs ys 8 xb yb (omega (arith, some)) (omega (arith, some, long)) eight first.1 in
    let before : take at xs ≡ take at ys = cc (take-take at 16 xs near, take-take at 16 ys near) in
    same_from c.equal_word_pairs-3.result xs ys
    (λ found.
    let words = c.equal_word_pairs-3.ensures.0 found in
    let more = more-same xs ys at xb yb (omega (arith, some)) (omega (arith, some, long)) before words.0 in
    same-last xs ys (at + 8) last xb yb long (omega (arith, some)) (omega (arith, some)) more words.1)
    (λ e. c.equal_word_pairs-3.ensures.1 (ap (λ l. word 8 l at) e, ap (λ l. word 8 l last) e))
