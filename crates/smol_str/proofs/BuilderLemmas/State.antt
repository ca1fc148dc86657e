-- For the builder: its text and kind, before and after an append; appends are associative (`appended-twice`).
use Rattle.smol_str.proofs.Common.{◌≡◌, ℕ, ◌<◌, IsUtf8-string_bytes, List, [], ◌++◌, append-nil, refl, append_assoc, arith, ◌⊎◌, nat_tests, INLINE_CAP, IsShort, BuilderState, Kind, InBuffer, OnHeap, kind_with, kind_for, appended, empty_builder, common_steps, rules}
use Rattle.smol_str.proofs.TextLemmas.Places.{is_short-true, is_short-false}
use Rattle.smol_str.proofs.TextLemmas.Sizes.{IsShort-front, size-chars}

-- a builder in its buffer, whose text stays short, or does not
pub kind_with-short : (t : List ℕ) → IsShort t → kind_with InBuffer t ≡ InBuffer
kind_with-short t h = rw (is_short-true t h)

pub kind_with-long : (t : List ℕ) → ¬ (IsShort t) → kind_with InBuffer t ≡ OnHeap
kind_with-long t h = rw (is_short-false t h)

pub ruleset begun = (common_steps, kind_with-short, kind_with-long, size-chars, IsUtf8-string_bytes)

-- a builder is on the heap for its capacity or for its text
pub why_heap : (n : ℕ) (t : List ℕ) → kind_with (kind_for n) t ≡ OnHeap → (INLINE_CAP < n) ⊎ (¬ (IsShort t))
why_heap n t heap = grind (arith, common_steps, nat_tests, kind_with-short)

kind_with-twice : (k : Kind) (s t : List ℕ) → kind_with (kind_with k s) (s ++ t) ≡ kind_with k (s ++ t)
kind_with-twice OnHeap s t = refl
kind_with-twice InBuffer s t = grind (arith, common_steps, kind_with-long, is_short-true, IsShort-front)

-- appending twice is appending the joined text
pub appended-twice : (b : BuilderState) (t u : List ℕ) → appended (appended b t) u ≡ appended b (t ++ u)
appended-twice b t u = search (rules, arith, append_assoc, kind_with-twice)

-- appending nothing changes nothing; the premise is the clause `short` of a builder's `as_str`
pub appended-nothing : (b : BuilderState) → (b.kind ≡ InBuffer → IsShort b.text) → appended b [] ≡ b
appended-nothing b short = search (rules, arith, append-nil, kind_with-short)

-- a new builder leaves its buffer only for a text that is not short
pub OnHeap-long : (t : List ℕ) → (appended (empty_builder InBuffer) t).kind ≡ OnHeap → ¬ (IsShort t)
OnHeap-long t heap = λ short. let stays = kind_with-short t short in cc
