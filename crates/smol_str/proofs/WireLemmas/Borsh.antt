-- A wire form in two parts, its size and its text, for the calls that write and read one part after the other.
use Rattle.smol_str.proofs.Common.{◌≡◌, Option, IfSome, sym, ap, ◌∙◌, subst, rules, cases_lt, ℕ, ◌+◌, ◌<◌, ◌≤◌, ◌^◌, arith, to_le_bytes, from_le_bytes, w32, from_le_bytes-to_le_bytes_4, List, ◌++◌, length, take, append_assoc, append-nil, take_at, drop_at, length-append, common_steps, encode_utf8_all, encodes-chars}
use Rattle.smol_str.proofs.Common.{Appends, Consumes, Appends-trans, Consumes-trans}
use Rattle.smol_str.proofs.Common.{INLINE_CAP, size, place_of, Meaning, HasWire, HasEndedEarly, body}
use Rattle.smol_str.specs.declared.borsh.fault.DecodeFault.{DecodeFault}
use Rattle.smol_str.specs.declared.borsh.fault.DecodeFault.TheVariants.{Ended, NotUtf8, OutOfMemory, Io}
use Rattle.smol_str.specs.declared.borsh.fault.LimitedFault.TheVariants.{TooLong, Decode}
use Rattle.smol_str.specs.declared.value.convert.FromUtf8Fault.{FromUtf8Fault}
use Rattle.smol_str.specs.Faults.{AfterFromUtf8Fault}
use Rattle.smol_str.specs.declared.borsh.TheConstants.{STACK_BODY}
use Rattle.smol_str.specs.Wire.{wire, prefix_size}
use Rattle.std.specs.Prelude.{⊤}
use Rattle.smol_str.specs.Stream.{AppendsBeginning, GaveAllBelow, GaveBelow, GaveUpTo}
use Rattle.smol_str.specs.WireFaults.{AfterDecodeFault, GaveTooFew, GaveSomeOfBody, HasReadBody, HasReadLarge, NeedsMemory, AfterBodyFault, StatesAtMost, AfterLimitedFault, of_utf8_fault}
use Rattle.smol_str.proofs.TextLemmas.Results.{IfErr-is}
use Rattle.smol_str.proofs.TextLemmas.Sizes.{size-chars}
use Rattle.smol_str.proofs.WireLemmas.Stream.{beginning-of_first, beginning-of_second}

-- ---- faults that another call's become

pub AfterBodyFault-of_text : (a b : Option (List ℕ)) (n : ℕ) (bytes : List ℕ) (e : FromUtf8Fault)
    → length bytes ≡ n → Consumes a b bytes → AfterFromUtf8Fault bytes e → AfterBodyFault a b n (of_utf8_fault e)
AfterBodyFault-of_text a b n bytes e whole consumed h = search (rules, size-chars, cases_lt)

-- ---- writing: the size of a text as it is found, and the text's bytes

module _ (t prefix bytes : List ℕ) (is : bytes ≡ encode_utf8_all t)
    (said : (length bytes < 2 ^ 32) × (prefix ≡ to_le_bytes w32 (length bytes))) where
  wire-parts : prefix ++ bytes ≡ wire t
  unfolding wire
  wire-parts = λ i. (said.1 ∙ ap (λ bs. to_le_bytes w32 (length bs)) is) i ++ is i

  pub Appends-parts : (a b c : Option (List ℕ)) → Appends a b prefix → Appends b c bytes → Appends a c (wire t)
  Appends-parts a b c p q = subst (Appends a c) wire-parts (Appends-trans a b c prefix bytes p q)

  -- a beginning of the form, which a writer that failed was given
  pub begun-in_prefix : (a c : Option (List ℕ)) → AppendsBeginning a c prefix → HasWire t × AppendsBeginning a c (wire t)
  begun-in_prefix a c h = (rw is at said.0, rw wire-parts at (beginning-of_first prefix bytes a c h))

  pub begun-in_bytes : (a b c : Option (List ℕ)) → Appends a b prefix → AppendsBeginning b c bytes
      → HasWire t × AppendsBeginning a c (wire t)
  begun-in_bytes a b c p h = (rw is at said.0, rw wire-parts at (beginning-of_second prefix bytes a b c p h))

-- ---- bytes

-- the size that the first four bytes of b are read as
pub prefix_size_of_bytes : (b prefix : List ℕ) (n : ℕ) → prefix ≡ take 4 b → n ≡ from_le_bytes w32 prefix
    → prefix_size b ≡ n
unfolding prefix_size
prefix_size_of_bytes b prefix n e is = sym (is ∙ ap (from_le_bytes w32) e)

-- ---- reading: a reader that gave the size n, below 2 ^ 32

module _ (n : ℕ) (fits : n < 2 ^ 32) where
  -- bytes that begin with the size n
  pub prefix_size-front : (r : List ℕ) → prefix_size (to_le_bytes w32 n ++ r) ≡ n
  unfolding prefix_size
  prefix_size-front r = search (rules, from_le_bytes-to_le_bytes_4)

  -- and go on with n bytes
  module _ (bs r : List ℕ) (l : length bs ≡ n) where
    whole_front : ¬ HasEndedEarly (to_le_bytes w32 n ++ (bs ++ r))
    whole_front early = grind (arith, common_steps, prefix_size-front, length-append)

    body_front : body (to_le_bytes w32 n ++ (bs ++ r)) ≡ bs
    body_front = search (rules, prefix_size-front, drop_at, take_at)

    taken_front : take (4 + prefix_size (to_le_bytes w32 n ++ (bs ++ r))) (to_le_bytes w32 n ++ (bs ++ r))
        ≡ to_le_bytes w32 n ++ bs
    taken_front = grind (arith, common_steps, length-append, prefix_size-front, append_assoc, take_at)

  -- and then the text of a value
  module _ (b c : Option (List ℕ)) (v : Meaning) (h : HasReadBody b c n v) where
    same_bytes : h.body ≡ encode_utf8_all v.text
    same_bytes = cc (encodes-chars h.body h.utf8, h.value.text)

    pub size-of_body : n ≡ size v.text
    size-of_body = sym h.whole ∙ ap length same_bytes

    pub is_read-of_body : HasWire v.text × (v.place ≡ place_of v.text)
    is_read-of_body = let same = size-of_body in (omega arith, cc (h.value.place, h.value.text))

    pub Consumes-of_body : (a : Option (List ℕ)) → Consumes a b (to_le_bytes w32 n) → Consumes a c (wire v.text)
    unfolding wire
    Consumes-of_body a p = search (rules, size-of_body, same_bytes, Consumes-trans)

  -- and then fewer bytes, with others left
  pub early-of_body : (P : List ℕ → Type 0) → ((r : List ℕ) → P (to_le_bytes w32 n ++ r)) → (a b c : Option (List ℕ))
      → Consumes a b (to_le_bytes w32 n) → GaveBelow b c n → GaveTooFew a c P
  early-of_body P holds a b c p (bs, short, consumed) =
      let both = Consumes-trans a b c (to_le_bytes w32 n) bs p consumed in
      search (rules, arith, holds bs, length-append, prefix_size-front)

  -- and then fewer bytes, with no others left
  ended-of_body : (a b c : Option (List ℕ)) → Consumes a b (to_le_bytes w32 n) → GaveAllBelow b c n → IfSome a HasEndedEarly
  ended-of_body a b c p h = search (rules, append-nil, prefix_size-front, length-append)

  -- and then some bytes, n of them at the most
  within-of_body : (a b c : Option (List ℕ)) → Consumes a b (to_le_bytes w32 n) → GaveUpTo b c n → GaveSomeOfBody a c
  within-of_body a b c p (bs, some, most, consumed) =
      let both = Consumes-trans a b c (to_le_bytes w32 n) bs p consumed in
      search (rules, arith, length-append, prefix_size-front)

  -- and then n bytes that are a text for which there was no memory
  long-of_body : (a b c : Option (List ℕ)) → Consumes a b (to_le_bytes w32 n)
      → (INLINE_CAP < n) × GaveUpTo b c n × (n ≤ STACK_BODY → HasReadLarge b c n)
      → IfSome a (λ x. (4 ≤ length x) × (INLINE_CAP < prefix_size x) × (prefix_size x ≤ STACK_BODY →
      NeedsMemory x × Consumes a c (take (4 + prefix_size x) x)))
  long-of_body a b c p h =
      grind (arith, common_steps, prefix_size-front, length-append, whole_front, body_front, append_assoc, taken_front)

  pub AfterDecodeFault-of_body : (a b c : Option (List ℕ)) (fault : DecodeFault) → Consumes a b (to_le_bytes w32 n)
      → AfterBodyFault b c n fault → AfterDecodeFault a c fault
  AfterDecodeFault-of_body a b c Ended p (bs, short, consumed, end) =
      (ended-of_body a b c p (bs, short, consumed, end), (to_le_bytes w32 n ++ bs, Consumes-trans a b c _ bs p consumed, end))
  AfterDecodeFault-of_body a b c (NotUtf8 e) p h =
      grind (arith, common_steps, whole_front, body_front, append_assoc, taken_front)
  AfterDecodeFault-of_body a b c OutOfMemory p h = (long-of_body a b c p h, within-of_body a b c p h.1)
  AfterDecodeFault-of_body a b c (Io e) p h = early-of_body (λ bytes. ⊤) (λ r. tt) a b c p h

  -- with a limit below the size
  pub AfterLimitedFault-above : (a b : Option (List ℕ)) (limit : ℕ) → Consumes a b (to_le_bytes w32 n) → limit < n
      → AfterLimitedFault limit a b TooLong
  AfterLimitedFault-above a b limit p h = search (rules, prefix_size-front, length-append, take_at)

  -- and with one that is not
  pub AfterLimitedFault-of_fault : (a b c : Option (List ℕ)) (limit : ℕ) (fault : DecodeFault)
      → Consumes a b (to_le_bytes w32 n) → n ≤ limit → AfterBodyFault b c n fault → AfterLimitedFault limit a c (Decode fault)
  AfterLimitedFault-of_fault a b c limit (Io e) p l h = search (rules, arith, early-of_body, prefix_size-front)
  AfterLimitedFault-of_fault a b c limit fault p l h =
      let within : IfSome a (StatesAtMost limit) = search (rules, prefix_size-front) in
      search (rules, AfterDecodeFault-of_body)

pub ruleset written_forms = (IfErr-is, Appends-parts)

pub ruleset read_bodies = (IfErr-is, AfterBodyFault-of_text)

pub ruleset limited_reads = (IfErr-is, is_read-of_body, Consumes-of_body, size-of_body, AfterLimitedFault-above)
