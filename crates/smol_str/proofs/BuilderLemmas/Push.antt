-- For the loops of `str_ext`: what is appended to a builder, and a text mapped character by character.
use Rattle.smol_str.proofs.Common.{◌≡◌, ℕ, ◌+◌, ◌<◌, List, [], ◌∷◌, ◌++◌, length, map, get_or, take, drop, sym, ap, ◌∙◌, take-append-drop, take_more, map-id, append_assoc, IsShort, BuilderState, InBuffer, OnHeap, kind_with, empty_builder, appended}
use Rattle.smol_str.proofs.BuilderLemmas.State.{OnHeap-long, appended-twice}

-- a builder that a front outgrows is outgrown by the whole
pub appended-heap : (b : BuilderState) (u v : List ℕ) → (appended b u).kind ≡ OnHeap → (appended b (u ++ v)).kind ≡ OnHeap
appended-heap b u v h = ap (λ d. d.kind) (sym (appended-twice b u v)) ∙ ap (λ k. kind_with k ((b.text ++ u) ++ v)) h

-- a builder that was new is on the heap for its text alone
pub new-heap : (t u : List ℕ) → (appended (appended (empty_builder InBuffer) t) u).kind ≡ OnHeap → ¬ (IsShort (t ++ u))
new-heap t u heap = OnHeap-long (t ++ u) (cc (appended-twice (empty_builder InBuffer) t u))

-- and is still one after an append
pub new-appended : (old e : BuilderState) (v : List ℕ) → old ≡ appended (empty_builder InBuffer) old.text → e ≡ appended old v
    → e ≡ appended (empty_builder InBuffer) e.text
new-appended old e v was put = cc (appended-twice (empty_builder InBuffer) old.text v)

-- what f makes of a text is what it makes of the text's parts
module _ (f : List ℕ → List ℕ) (parts : (a b : List ℕ) → f (a ++ b) ≡ f a ++ f b) where
  -- a refused character is one of the text's
  pub mapped-refused : (old b : BuilderState) (ys t v : List ℕ) (c : ℕ) → b ≡ appended old (f ys) → v ≡ f (c ∷ [])
      → map (λ x. x) ys ≡ take (length ys) t → length ys < length t → c ≡ get_or t (length ys) c
      → (appended b v).kind ≡ OnHeap → (appended old (f t)).kind ≡ OnHeap
  mapped-refused old b ys t v c is same so_far more item heap =
      let rest = drop (length ys + 1) t in
      let begun : take (length ys + 1) t ≡ ys ++ c ∷ [] = cc (take_more t (length ys) c more, map-id ys) in
      let whole = appended-heap old (f ys ++ v) (f rest) (cc (appended-twice old (f ys) v)) in
      cc (whole, take-append-drop (length ys + 1) t, parts (take (length ys + 1) t) rest, parts ys (c ∷ []))

-- a builder that was new, with the front of a text in it, before the text's next part
pub new-part : (b : BuilderState) (v r t : List ℕ) → b ≡ appended (empty_builder InBuffer) b.text → b.text ++ (v ++ r) ≡ t
    → ((appended b v).kind ≡ OnHeap → (appended (empty_builder InBuffer) t).kind ≡ OnHeap)
    × ((e : BuilderState) → e ≡ appended b v → (e ≡ appended (empty_builder InBuffer) e.text) × (e.text ++ r ≡ t))
new-part b v r t new whole =
    let twice = appended-twice (empty_builder InBuffer) b.text v in
    let parts = append_assoc b.text v r in (
      λ heap. cc (appended-heap (empty_builder InBuffer) (b.text ++ v) r (cc (twice, new, heap)), parts, whole),
      λ e put. (new-appended b e v new put, ap (λ d. d.text ++ r) put ∙ parts ∙ whole),
    )
