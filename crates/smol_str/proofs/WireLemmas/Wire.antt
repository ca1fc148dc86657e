-- For the laws of the wire form: none begins another, and bytes hold the form that they say.
use Rattle.smol_str.proofs.Common.{◌≡◌, inl, inr, IsTrue, refl, sym, ap, ◌∙◌, rules, ℕ, zero, suc, ◌+◌, ◌<◌, ◌≤◌, ◌^◌, lit<, arith, to_le_bytes, from_le_bytes, w32, from_le_bytes-to_le_bytes_4, le_bytes_4}
use Rattle.smol_str.proofs.Common.{List, [], ◌∷◌, ◌++◌, get_or, length, take, drop, length-append, append_assoc, take-append-drop, All, take_at, drop_at, append_cancel_left, length-take-le, length-drop, All-head, All-tail, take-add, All-take, encode_utf8_all, all_scalars, encodes_same, size, HasWire, Holds, HasEndedEarly, body}
use Rattle.smol_str.specs.Wire.{wire, prefix_size}

pub length-wire : (t : List ℕ) → length (wire t) ≡ size t + 4
unfolding wire
length-wire t = simp length-append (omega arith)

wire-append : (t x : List ℕ) → wire t ++ x ≡ to_le_bytes w32 (size t) ++ (encode_utf8_all t ++ x)
unfolding wire
wire-append t x = append_assoc (to_le_bytes w32 (size t)) (encode_utf8_all t) x

pub prefix_size-wire : (t x : List ℕ) → HasWire t → prefix_size (wire t ++ x) ≡ size t
unfolding prefix_size
prefix_size-wire t x h = search (rules, wire-append, take_at, from_le_bytes-to_le_bytes_4)

pub wire-apart : (s t x y : List ℕ) → HasWire s → HasWire t → wire s ++ x ≡ wire t ++ y → (s ≡ t) × (x ≡ y)
wire-apart s t x y h k e =
    let sizes : size s ≡ size t = cc (prefix_size-wire s x h, prefix_size-wire t y k) in
    let rest = append_cancel_left (to_le_bytes w32 (size s)) (encode_utf8_all s ++ x) (encode_utf8_all t ++ y)
    (cc (wire-append s x, wire-append t y)) in
    let bytes : encode_utf8_all s ≡ encode_utf8_all t =
    cc (take_at (encode_utf8_all s) x (size s) refl, take_at (encode_utf8_all t) y (size s) (sym sizes)) in
    (encodes_same s t bytes, append_cancel_left (encode_utf8_all s) x y (cc))

module _ (b t : List ℕ) (n : ℕ) (h : Holds b t n) where
  -- what is held, and what follows it
  pub wire-held : b ≡ wire t ++ drop n b
  wire-held = cc (take-append-drop n b, h.reads)

  pub length-Holds : n ≡ size t + 4
  length-Holds = cc (length-take-le n b h.within, h.reads, length-wire t)

  states : prefix_size b ≡ size t
  states = cc (wire-held, prefix_size-wire t (drop n b) h.sized)

  pub Holds-whole : ¬ HasEndedEarly b
  Holds-whole early = grind (arith, states, length-Holds)

  pub body-Holds : body b ≡ encode_utf8_all t
  body-Holds =
      let behind = drop_at (to_le_bytes w32 (size t)) (encode_utf8_all t ++ drop n b) 4 refl in
      let front = take_at (encode_utf8_all t) (drop n b) (size t) refl in
      cc (wire-held, wire-append t (drop n b), behind, states, front)

pub Holds-one : (b s t : List ℕ) (m n : ℕ) → Holds b s m → Holds b t n → (s ≡ t) × (m ≡ n)
Holds-one b s t m n h k =
    let same = wire-apart s t (drop m b) (drop n b) h.sized k.sized (cc (wire-held b s m h, wire-held b t n k)) in
    (same.0, cc (same.0, length-Holds b s m h, length-Holds b t n k))

-- a form, and what follows it
pub Holds-written : (t x : List ℕ) → HasWire t → IsTrue (all_scalars t) → Holds (wire t ++ x) t (size t + 4)
Holds-written t x h s = search (rules, arith, length-wire, length-append, take_at)

-- numbers that are bytes, whatever is read past their end
small_at : (b : List ℕ) → All (λ c. c < 2 ^ 8) b → (i : ℕ) → get_or b i 0 < 256
small_at [] small i = lit< tt
small_at (x ∷ xs) small zero = search (rules, All-head)
small_at (x ∷ xs) small (suc i) = search (rules, small_at xs, All-tail)

-- bytes that have not ended early hold the text that their body is
pub Holds-stated : (b t : List ℕ) → All (λ c. c < 2 ^ 8) b → ¬ HasEndedEarly b → body b ≡ encode_utf8_all t →
    IsTrue (all_scalars t) → Holds b t (size t + 4)
unfolding prefix_size wire
Holds-stated b t small whole e scalars =
    let four : 4 ≤ length b = omega (arith, λ (h : length b < 4). whole (inl h)) in
    let rest : 4 + prefix_size b ≤ length b = omega (arith, λ (h : length b < 4 + prefix_size b). whole (inr h)) in
    let front = small_at (take 4 b) (All-take (λ c. c < 2 ^ 8) 4 b small) in
    let fits : from_le_bytes w32 (take 4 b) < 2 ^ 32 = omega (arith, front 0, front 1, front 2, front 3) in
    let long : size t ≡ prefix_size b =
    ap length (sym e) ∙ length-take-le (prefix_size b) (drop 4 b) (omega (arith, length-drop 4 b)) in
    let sized = le_bytes_4 (take 4 b) (size t) (length-take-le 4 b four) front long in
    let reads : take (size t + 4) b ≡ wire t = search (rules, arith, take-add) in
    record { scalars = scalars; sized = omega arith; within = omega arith; reads = reads }
