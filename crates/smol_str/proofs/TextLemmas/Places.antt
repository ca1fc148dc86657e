-- The place of a text: short, a blank run or on the heap.
use Rattle.smol_str.proofs.Common.{◌≡◌, true, false, ◌⊎◌, rules, ℕ, ◌<◌, ◌≤◌, nat_le, arith, nat_tests, Decides-and, Decides-like, List, length}
use Rattle.smol_str.proofs.Common.{chars, IsUtf8, encodes-chars, chars-IsAscii, encodes-IsAscii, INLINE_CAP, size, is_short, IsShort, IsBlankRun, IsResident}
use Rattle.std.specs.Bool.{Decides}
use Rattle.smol_str.specs.declared.value.place.Place.TheVariants.{Inline, Static, Heap}
use Rattle.smol_str.specs.Text.{is_blank_run, place_of}
use Rattle.smol_str.proofs.TextLemmas.Blank.{IsAscii-blank_run, Passes-from_IsBlankRun, IsBlankRun-from_tests}
use Rattle.smol_str.proofs.TextLemmas.Sizes.{size-chars}

-- the bytes are a blank run exactly where the characters are
pub IsBlankRun-chars : (bs : List ℕ) → IsBlankRun bs → IsBlankRun (chars bs)
IsBlankRun-chars bs r = search (rules, chars-IsAscii, IsAscii-blank_run)

pub IsBlankRun-bytes : (bs : List ℕ) → IsUtf8 bs → IsBlankRun (chars bs) → IsBlankRun bs
IsBlankRun-bytes bs u r =
    let plain = encodes-IsAscii _ (IsAscii-blank_run r.newlines r.spaces) in grind (arith, encodes-chars, plain)

-- no text is resident that is longer than the buffer, and whose bytes are not a blank run
pub not_resident : (bs : List ℕ) → IsUtf8 bs → INLINE_CAP < length bs → ¬ (IsBlankRun bs) → ¬ (IsResident (chars bs))
not_resident bs u long other resident = search (rules, size-chars, IsBlankRun-bytes)

-- the test for a blank run
le_test : (a b : ℕ) → Decides (nat_le a b) (a ≤ b)
le_test a b = ((λ h. grind (arith, nat_tests)), (λ h. grind (arith, nat_tests)))

pub is_blank_run-Decides : (t : List ℕ) → Decides (is_blank_run t) (IsBlankRun t)
unfolding is_blank_run
is_blank_run-Decides t = search (rules, Decides-like, IsBlankRun-from_tests, Passes-from_IsBlankRun, Decides-and, le_test)

-- the test for a short text
pub is_short-true : (t : List ℕ) → IsShort t → is_short t ≡ true
is_short-true t h = (le_test (size t) INLINE_CAP).1 h

pub is_short-false : (t : List ℕ) → ¬ (IsShort t) → is_short t ≡ false
is_short-false t h = grind (arith, nat_tests)

-- the three places
pub place_of-short : (t : List ℕ) → IsShort t → place_of t ≡ Inline
unfolding place_of
place_of-short t h = rw (is_short-true t h)

pub place_of-blank : (t : List ℕ) → ¬ (IsShort t) → IsBlankRun t → place_of t ≡ Static
unfolding place_of
place_of-blank t long run = rw (is_short-false t long, (is_blank_run-Decides t).1 run)

pub place_of-heap : (t : List ℕ) → ¬ (IsResident t) → place_of t ≡ Heap
unfolding place_of
place_of-heap t away = grind (arith, nat_tests, is_blank_run-Decides)

-- each text has one of the three places, for its own reason
abbrev PlaceCases : List ℕ → Type 0
PlaceCases t = (IsShort t × (place_of t ≡ Inline)) ⊎ (((¬ (IsShort t)) × IsBlankRun t × (place_of t ≡ Static))
    ⊎ ((¬ (IsResident t)) × (place_of t ≡ Heap)))

pub place-cases : (t : List ℕ) → PlaceCases t
unfolding place_of
place-cases t = grind (arith, nat_tests, is_blank_run-Decides)
