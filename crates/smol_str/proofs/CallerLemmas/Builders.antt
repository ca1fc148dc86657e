-- Builders: appends one after another, and when a builder leaves its buffer.
use Rattle.smol_str.proofs.Common.{BuilderState, OnHeap, appended, ◌++◌, drop, ◌≡◌, ◌∷◌, ℕ, ◌+◌, ◌≤◌, List, [], take, take_all, refl, arith, flat_map, size, nat_tests, append-nil, append_assoc, map-append}
use Rattle.smol_str.proofs.CallerLemmas.Common.{take_at_read, flat_map-append, flat_map-map}
use Rattle.smol_str.proofs.TextLemmas.Lists.{flat_map-parts}
use Rattle.smol_str.proofs.TextLemmas.Sizes.{size-append}
use Rattle.smol_str.proofs.BuilderLemmas.Push.{appended-heap}
use Rattle.smol_str.proofs.BuilderLemmas.State.{appended-twice, appended-nothing, OnHeap-long}
use Rattle.smol_str.proofs.CallerLemmas.Texts.{texts}

-- in a loop that appends a piece for each item: the pieces of the first, and of one more, are no longer than all pieces
pub size-front : {X : Type 0} (f : X → List ℕ) (xs : List X) (i : ℕ)
    → (flat_map f (take i xs) ≡ flat_map f (take i xs)) × (size (flat_map f (take (i + 1) xs)) ≤ size (flat_map f xs))
size-front f xs i = (refl, rw (flat_map-parts f xs (i + 1)) (omega (arith, size-append)))

-- a character more
pub size-cons : (c : ℕ) (t : List ℕ) → size (c ∷ t) ≡ size (c ∷ []) + size t
size-cons c t = size-append (c ∷ []) t

pub ruleset in_loops = (take_at_read, take_all, flat_map-append, append-nil, append_assoc)

pub ruleset builders = (texts, size-cons, appended-twice, appended-nothing, OnHeap-long, nat_tests, size-append, size-front, in_loops)

-- a builder that a character takes to the heap is there whatever follows
pub OnHeap-cons : (b : BuilderState) (c : ℕ) (t : List ℕ) → (appended b (c ∷ [])).kind ≡ OnHeap → (appended b (c ∷ t)).kind ≡ OnHeap
OnHeap-cons b c t = appended-heap b (c ∷ []) t

pub OnHeap-cons_front : (b : BuilderState) (c : ℕ) (t u : List ℕ) → (appended b (c ∷ t)).kind ≡ OnHeap
    → (appended b (c ∷ (t ++ u))).kind ≡ OnHeap
OnHeap-cons_front b c t u = appended-heap b (c ∷ t) u

-- in a loop: the pieces of the first items and of one more, and those that follow
pub pieces-front : {X : Type 0} (f : X → List ℕ) (xs : List X) (i : ℕ) → (flat_map f (take i xs) ≡ flat_map f (take i xs))
    × (flat_map f xs ≡ flat_map f (take (i + 1) xs) ++ flat_map f (drop (i + 1) xs))
pieces-front f xs i = (refl, flat_map-parts f xs (i + 1))

-- of a builder that is passed in, whose text is not known
pub ruleset passed_builders = (texts, appended-twice, appended-nothing, appended-heap, OnHeap-cons, OnHeap-cons_front, pieces-front, flat_map-map, in_loops)

-- a loop over the entries of a map of `indexmap`, which appends something for each
pub ruleset by_entry = (texts, appended-twice, appended-nothing, map-append, in_loops)
