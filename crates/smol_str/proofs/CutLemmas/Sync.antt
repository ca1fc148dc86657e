-- For the law of self-synchronisation: where the bytes of a text that is not empty occur in the bytes of a text,
-- its characters occur. It holds of every two lists of numbers.
use Rattle.smol_str.proofs.Common.{◌≡◌, ℕ, ◌≤◌, ◌<◌, List, [], ◌∷◌, ◌++◌, ◌⊎◌, length, refl, ap, ◌∙◌, arith, append_assoc, encode, encodes, cons_from_encodes, encodes-append, StandsAt, rules}
use Rattle.smol_str.proofs.TextLemmas.Lists.{head_same, tail_same}
use Rattle.smol_str.proofs.TextLemmas.Utf8.{form}

-- the bytes begin with those of p: then the text begins with p
pub starts_with-encodes : (z p y : List ℕ) → encodes z ≡ encodes p ++ y → (r : List ℕ) × (z ≡ p ++ r) × (encodes r ≡ y)
starts_with-encodes z [] y e = (z, refl, e)
starts_with-encodes z (c ∷ cs) y e =
    let h = cons_from_encodes z (encodes cs ++ y) c (e ∙ append_assoc (encode c) (encodes cs) y) in
    let q = starts_with-encodes h.0 cs y h.2 in (q.0, cc (h.1, q.1), q.2)

-- bytes that begin no character
abbrev Follows : List ℕ → Type 0
Follows [] = Unit {0}
Follows (b ∷ bs) = ((128 ≤ b) × (b < 192)) × Follows bs

-- a byte that begins a character
abbrev Leads : ℕ → Type 0
Leads b = (b < 128) ⊎ (192 ≤ b)

-- a character's bytes: one that leads, and those that follow
record LeadAndRest (c : ℕ) : Type 0 where
  lead : ℕ
  rest : List ℕ
  reads : encode c ≡ lead ∷ rest
  leads : Leads lead
  follows : Follows rest

lead_and_rest : (c : ℕ) → LeadAndRest c
lead_and_rest c = let forms = form c in search rules

-- a byte that leads comes after those that follow
follows-apart : (s rest u : List ℕ) (b : ℕ) (v : List ℕ) → Follows s → Leads b → s ++ rest ≡ u ++ (b ∷ v) →
    (w : List ℕ) × (u ≡ s ++ w) × (rest ≡ w ++ (b ∷ v))
follows-apart [] rest u b v f l e = (u, refl, e)
follows-apart (x ∷ s) rest [] b v f l e = search (rules, arith, head_same)
follows-apart (x ∷ s) rest (d ∷ u) b v f l e = search (rules, arith, rest, tail_same, head_same, follows-apart s rest u b v f.1 l (tail_same x d (s ++ rest) (u ++ (b ∷ v)) e))

-- p occurs in t between x and y, as characters and as bytes
abbrev pub StandsBetween : List ℕ → List ℕ → List ℕ → List ℕ → Type 0
StandsBetween t p x y = (a : List ℕ) × (r : List ℕ) × (t ≡ a ++ (p ++ r)) × (encodes a ≡ x) × (encodes r ≡ y)

pub StandsBetween-bytes : (t p x y : List ℕ) → 0 < length p → encodes t ≡ x ++ (encodes p ++ y) → StandsBetween t p x y
StandsBetween-bytes t p [] y some e = let h = starts_with-encodes t p y e in ([], h.0, h.1, refl, h.2)
StandsBetween-bytes [] p (d ∷ x) y some e = absurd (cc)
StandsBetween-bytes (c ∷ cs) (k ∷ ks) (d ∷ x) y some e =
    let f = lead_and_rest c in
    let g = lead_and_rest k in
    let after = g.rest ++ (encodes ks ++ y) in
    let whole : f.lead ∷ (f.rest ++ encodes cs) ≡ d ∷ (x ++ (g.lead ∷ after)) =
    cc (f.reads, g.reads, append_assoc (encode k) (encodes ks) y) in
    let h = follows-apart f.rest (encodes cs) x g.lead after f.follows g.leads (tail_same f.lead d _ _ whole) in
    let r = StandsBetween-bytes cs (k ∷ ks) h.0 y some (cc (h.2, g.reads, append_assoc (encode k) (encodes ks) y)) in
    (c ∷ r.0, r.1, cc (r.2), cc (f.reads, r.3, h.1, head_same f.lead d _ _ whole), r.4)
StandsBetween-bytes t p x y some e = absurd (omega arith)

pub StandsAt-bytes : (t p x y : List ℕ) → 0 < length p → encodes t ≡ x ++ (encodes p ++ y) → StandsAt p t (length x)
StandsAt-bytes t p x y some e = let h = StandsBetween-bytes t p x y some e in (h.0, h.1, h.2, ap length h.3)

-- and the other way round
pub bytes-StandsAt : (t p : List ℕ) (i : ℕ) → StandsAt p t i →
    (x y : List ℕ) × (encodes t ≡ x ++ (encodes p ++ y)) × (length x ≡ i)
bytes-StandsAt t p i h =
    (encodes h.0, encodes h.1, cc (h.2, encodes-append h.0 (p ++ h.1), encodes-append p h.1), h.3)
