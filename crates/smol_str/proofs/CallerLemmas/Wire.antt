-- Wire forms in bytes.
use Rattle.smol_str.proofs.Common.{◌≡◌, Option, refl, sym, ◌∙◌, inl, inr, IsTrue, rules, Result, OnErr, ℕ, ◌+◌, ◌<◌, ◌≤◌, ◌^◌, arith, to_le_bytes, from_le_bytes-to_le_bytes_4, w32, ◌∷◌, All, List, [], ◌++◌, append_assoc, map, map-id, length, flat_map, take-append-le, length-append, All-head, All-tail, common_steps, append-nil, length-take, get_or, map-append, length-map, chars, ap}
use Rattle.smol_str.proofs.Common.{all_scalars, IsUtf8, chars-encodes, scalars-chars, Appends, size, HasWire, wire, Holds, HasEndedEarly, body, Meaning}
use Rattle.smol_str.proofs.CallerLemmas.Common.{AfterEncodeFault, take_at_read, flat_map-append, flat_map_more, get_or-map, get_or_append_left, get_or_push, All-push}
use Rattle.smol_str.specs.Wire.{prefix_size}
use Rattle.smol_str.specs.Stream.{AppendsBeginning}
use Rattle.smol_str.specs.declared.borsh.fault.EncodeFault.{EncodeFault}
use Rattle.std.proofs.KnownBytes.{Appends-nil, Appends-kept}
use Rattle.smol_str.proofs.TextLemmas.Results.{OnErr-always}
use Rattle.smol_str.proofs.WireLemmas.Stream.{beginning-of_first, beginning-of_second}
use Rattle.smol_str.proofs.WireLemmas.Wire.{length-wire, prefix_size-wire, wire-apart, Holds-one, Holds-whole, body-Holds, Holds-written}

-- ---- wire forms

-- bytes that are the form of t, and what follows it
pub form_is_whole : (b t x : List ℕ) → HasWire t → IsTrue (all_scalars t) → b ≡ wire t ++ x → ¬ HasEndedEarly b
form_is_whole b t x sized scalars is = rw is (Holds-whole (wire t ++ x) t _ (Holds-written t x sized scalars))

-- all that they say: the text of the body, what `from_wire` finds, and what `deserialize_reader` consumes and leaves
pub form-known : (t x : List ℕ) → HasWire t → IsTrue (all_scalars t) → (wire t ++ x ≡ wire t ++ x)
    × (¬ HasEndedEarly (wire t ++ x)) × IsUtf8 (body (wire t ++ x)) × (chars (body (wire t ++ x)) ≡ t)
    × ((u : List ℕ) (n : ℕ) → Holds (wire t ++ x) u n → (u ≡ t) × (n ≡ size t + 4))
    × ((u r : List ℕ) → HasWire u → wire t ++ x ≡ wire u ++ r → (u ≡ t) × (r ≡ x))
form-known t x sized scalars =
    let held = Holds-written t x sized scalars in
    let is = body-Holds (wire t ++ x) t (size t + 4) held in (
      refl,
      Holds-whole _ t _ held,
      (t, (scalars, sym is)),
      ap chars is ∙ chars-encodes t scalars,
      λ u n h. Holds-one _ u t n _ h held,
      λ u r fits e. wire-apart u t r x fits sized (sym e),
    )

pub ruleset forms = (form-known, scalars-chars)

-- bytes that with more are the form of t and what follows it: where they have not ended early, the form is all there
pub form-cut-utf8 : (b more t x : List ℕ) → HasWire t → IsTrue (all_scalars t) → b ++ more ≡ wire t ++ x → ¬ HasEndedEarly b
    → IsUtf8 (body b)
unfolding prefix_size
form-cut-utf8 b more t x sized scalars is whole =
    let written = Holds-written t x sized scalars in
    let four : 4 ≤ length b = omega (arith, λ (h : length b < 4). whole (inl h)) in
    let states : prefix_size b ≡ size t = cc (take-append-le 4 b more four, prefix_size-wire t x sized) in
    let within : size t + 4 ≤ length b = omega (arith, λ (h : length b < 4 + prefix_size b). whole (inr h)) in
    let held : Holds b t (size t + 4) = search (rules, within, take-append-le) in
    (t, (scalars, sym (body-Holds b t (size t + 4) held)))

-- ---- wire forms one after another, and how many they are

-- a count before them, as four bytes
pub count-apart : (m n : ℕ) (x y : List ℕ) → m < 2 ^ 32 → n < 2 ^ 32
    → to_le_bytes w32 m ++ x ≡ to_le_bytes w32 n ++ y → (m ≡ n) × (x ≡ y)
count-apart m n x y h k e = search (rules, arith, from_le_bytes-to_le_bytes_4)

-- as many forms: of equal items, as far as `key` reads them and one form determines them
module _ {X Y : Type 0} (form : X → List ℕ) (P : X → Type 0) (key : X → Y)
    (apart : (x y : X) (s t : List ℕ) → P x → P y → form x ++ s ≡ form y ++ t → (key x ≡ key y) × (s ≡ t)) where
  pub items-apart : (xs ys : List X) (s t : List ℕ) → All P xs → All P ys → length xs ≡ length ys
      → flat_map form xs ++ s ≡ flat_map form ys ++ t → (map key xs ≡ map key ys) × (s ≡ t)
  items-apart [] [] s t h k l e = (refl, e)
  items-apart (x ∷ xs) (y ∷ ys) s t h k l e =
      let first = apart x y _ _ (All-head P x xs h) (All-head P y ys k) (simp append_assoc at e) in
      let others = items-apart xs ys s t (All-tail P x xs h) (All-tail P y ys k) (omega arith) first.1 in
      (cc (first.0, others.0), others.1)
  items-apart xs ys s t h k l e = absurd (omega arith)

-- so lists whose forms are one, with their numbers before them
pub lists-apart : (ss ts : List (List ℕ)) (x y : List ℕ) → length ss < 2 ^ 32 → length ts < 2 ^ 32 → All HasWire ss
    → All HasWire ts → (to_le_bytes w32 (length ss) ++ flat_map wire ss) ++ x ≡ (to_le_bytes w32 (length ts) ++ flat_map wire ts) ++ y
    → (ss ≡ ts) × (x ≡ y)
lists-apart ss ts x y few less h k e =
    let parts = count-apart (length ss) (length ts) (flat_map wire ss ++ x) (flat_map wire ts ++ y) few less e in
    simp map-id at (items-apart wire HasWire (λ t. t) wire-apart ss ts x y h k parts.0 parts.1)

-- more forms: behind the fewer comes the next
pub forms-next : (ss ts : List (List ℕ)) (x y : List ℕ) → All HasWire ss → All HasWire ts
    → All (λ t. IsTrue (all_scalars t)) ts → length ss < length ts → flat_map wire ss ++ x ≡ flat_map wire ts ++ y
    → (t after : List ℕ) × HasWire t × IsTrue (all_scalars t) × (x ≡ wire t ++ after)
forms-next [] (t ∷ ts) x y h k scalars l e = search (rules, arith, All-head, append_assoc)
forms-next (s ∷ ss) (t ∷ ts) x y h k scalars l e =
    forms-next ss ts x y (All-tail HasWire s ss h) (All-tail HasWire t ts k)
    (All-tail (λ t. IsTrue (all_scalars t)) t ts scalars) (omega (arith, l))
    (wire-apart s t _ _ (All-head HasWire s ss h) (All-head HasWire t ts k) (simp append_assoc at e)).1
forms-next ss ts x y h k scalars l e = absurd (omega arith)

-- one form more
pub forms-more : (ts : List (List ℕ)) (t x : List ℕ)
    → flat_map wire ts ++ (wire t ++ x) ≡ flat_map wire (ts ++ t ∷ []) ++ x
forms-more ts t x = grind (arith, common_steps, append_assoc, flat_map_more)

-- a loop that reads a list by `split_wire`, where its number was read first: the bytes are that number, the forms of the
-- i texts so far, and the rest
pub record AreRead (bytes : List ℕ) (count : ℕ) (ts : List (List ℕ)) (rest : List ℕ) (i : ℕ) : Type 0 where
  pub number : length ts ≡ i
  pub sized : All HasWire ts
  pub form : bytes ≡ to_le_bytes w32 count ++ (flat_map wire ts ++ rest)

module _ (bytes : List ℕ) (count : ℕ) (ts : List (List ℕ)) (rest : List ℕ) (i : ℕ)
    (read : AreRead bytes count ts rest i) where
  -- the step
  pub one_read : (us : List (List ℕ)) (t after : List ℕ) → rest ≡ wire t ++ after → HasWire t → us ≡ ts ++ t ∷ []
      → AreRead bytes count us after (i + 1)
  one_read us t after is fits more = grind (arith, common_steps, forms-more, length-append, All-push)

  -- the end
  pub all_read : count ≤ i → i ≤ count → bytes ≡ (to_le_bytes w32 (length ts) ++ flat_map wire ts) ++ rest
  all_read up down = search (rules, arith)

  -- a list that the bytes begin with, or they and more, has one text more
  pub next_form : count < 2 ^ 32 → i < count → (us : List (List ℕ)) (more x : List ℕ) → length us < 2 ^ 32
      → All HasWire us → All (λ t. IsTrue (all_scalars t)) us
      → bytes ++ more ≡ (to_le_bytes w32 (length us) ++ flat_map wire us) ++ x
      → (t after : List ℕ) × HasWire t × IsTrue (all_scalars t) × (rest ++ more ≡ wire t ++ after)
  next_form few below us more x can sized scalars e = search (rules, arith, append_assoc, count-apart, forms-next)

-- ---- items one after another, in a writer or of a reader

-- whatever the fault of a text that was not written: a beginning of its form was
pub begun : (held holds : Option (List ℕ)) (t : List ℕ) (fault : EncodeFault)
    → AfterEncodeFault (wire t) (HasWire t) held holds fault → AppendsBeginning held holds (wire t)
begun held holds t fault h = search (rules, length-wire, Appends-kept, Appends-nil)

module _ {T E : Type 0} (r : Result T E) (held holds : Option (List ℕ)) (t bytes : List ℕ) where
  -- and so of it and what would have come behind it
  pub begun_first : ((fault : EncodeFault) × AfterEncodeFault (wire t) (HasWire t) held holds fault)
      → OnErr r (AppendsBeginning held holds (wire t ++ bytes))
  begun_first (fault, h) = OnErr-always r _ (beginning-of_first (wire t) bytes held holds (begun held holds t fault h))

  -- and of what was written before it and itself
  pub begun_second : ((middle : Option (List ℕ)) × (fault : EncodeFault) × Appends held middle bytes
      × AfterEncodeFault (wire t) (HasWire t) middle holds fault)
      → OnErr r (AppendsBeginning held holds (bytes ++ wire t))
  begun_second (middle, fault, wrote, h) = search (rules, OnErr-always, beginning-of_second, begun)

-- a form of two parts, written and read
pub ruleset parts = (append_assoc, begun_first, begun_second)

-- at a value in a list, its text in the list of texts
pub text-at : (values : List Meaning) (i : ℕ) (v : Meaning) → i < length values
    → (get_or values i v ≡ get_or values i v) × (get_or (map (λ v. v.text) values) i v.text ≡ (get_or values i v).text)
text-at values i v here = (refl, get_or-map (λ (v : Meaning). v.text) values i v v.text here)

-- a loop that writes the items of a list, or reads some into one
pub ruleset lengths = (length-take, length-append, length-map)

pub ruleset items = (append_assoc, append-nil, flat_map-append, map-append, take_at_read, lengths, get_or_append_left, get_or_push, text-at)
