use Rattle.smol_str.proofs.Common.{rules, ◌≡◌, ◌↔◌, ◌&&◌, ◌-◌, ◌+◌, ◌≤◌, ℕ, List, Bool, true, false, not, IsTrue, length, take, drop, take-take, take_all, refl, arith, IsAscii, IsAscii-take, IsAscii-drop, ap, sym, ◌∙◌, ltb-true, ltb-false}
use Rattle.std.proofs.Common.{true≢false}
use Rattle.smol_str.specs.declared.bytes.ascii.TheConstants.{ASCII_LANES}
use Rattle.smol_str.proofs.CaseLemmas.Ascii.{ascii-more, ascii-told}
use Rattle.smol_str.proofs.bytes.ascii.is_all_ascii.Goals as goal

-- the last bytes are ASCII, and so are those before them
module _ (bytes : List ℕ) (at n : ℕ) (some : n ≤ length bytes) where
  ends : length bytes ≤ at + n → IsAscii (take at bytes) → IsAscii (take n (drop (length bytes - n) bytes)) → IsAscii bytes
  ends near front last =
      let from = length bytes - n in
      let before = rw (take-take from at bytes (omega arith)) at (IsAscii-take (take at bytes) from front) in
      rw (take_all (from + n) bytes (omega arith)) at (ascii-more bytes from n _ refl last before)

  told : (a high : Bool) → (a ≡ true → IsAscii (take at bytes) × (length bytes ≤ at + n)) → (a ≡ false → ¬ (IsAscii bytes))
      → (high ≡ false) ↔ IsAscii (take n (drop (length bytes - n) bytes)) → IsTrue (a && not high) ↔ IsAscii bytes
  told true false front back last = (λ _. ends (front refl).1 (front refl).0 (last.0 refl), λ _. refl)
  told true true front back last =
      (λ f. absurd (true≢false (sym f)), λ ascii. sym (last.1 (IsAscii-take _ n (IsAscii-drop bytes (length bytes - n) ascii))))
  told false high front back last = search (rules, true≢false)

pub returns-then-len-lt8 : goal.returns-then-len-lt8
returns-then-len-lt8 c = (λ yes. rw yes at c.is_ascii.ensures.cases, ascii-told _ _ c.is_ascii.ensures.cases)

pub returns-then-len-lt-ASCII_LANES : goal.returns-then-len-lt-ASCII_LANES
returns-then-len-lt-ASCII_LANES c =
    let first = rw c.load.ensures.lanes at c.has_high.ensures in
    let last = rw c.load-then-len-lt-ASCII_LANES.ensures.lanes at c.has_high-then-len-lt-ASCII_LANES.ensures in
    told c.args.bytes.now 8 8 (omega (arith, c.if-len-lt8.false)) (not c.has_high.result) _
    (λ yes. (first.0 (search rules), omega (arith, c.if-len-lt-ASCII_LANES.true)))
    (λ no ascii. true≢false (sym (ap not (first.1 (IsAscii-take c.args.bytes.now 8 ascii))) ∙ no)) last

pub returns : goal.returns
returns c =
    let at = c.ascii_chunks-at.result in
    let last = rw c.load-2.ensures.lanes at c.has_high-2.ensures in
    told c.args.bytes.now at ASCII_LANES (omega (arith, c.if-len-lt-ASCII_LANES.false)) _ _
    (λ yes. (c.ascii_chunks-at.ensures.all.low, omega (arith, ltb-true _ _ yes)))
    (λ no ascii. c.ascii_chunks-at.ensures.stops (omega (arith, ltb-false _ _ no))
    (IsAscii-take _ ASCII_LANES (IsAscii-drop c.args.bytes.now at ascii))) last
