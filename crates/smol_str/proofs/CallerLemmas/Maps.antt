-- Maps with values as keys, at texts.
use Rattle.smol_str.proofs.Common.{◌≡◌, ◌∙◌, Bor, Option, None, Some, Bool, true, false, cond, refl, sym, ap, option_map, if◌then◌else◌, rules, ◌+◌, ◌≤◌, ℕ, false≢true, arith, false_from_ne_true, nat_cmp, ◌++◌, List, [], ◌∷◌, length, length-map, map, take, get_or, common_steps, bytes_eq, slice_cmp, IsUtf8, chars, encodes-chars, encodes_same, encode_utf8_all, Meaning}
use Rattle.smol_str.proofs.CallerLemmas.Common.{set, ◌||◌, take_more_set, take-map, take-set-le, Vec, is_eq, eq_by_cmp, list_any, texts, lookup, KeepsOthers, option_copied, option_or, bytes_eq-Decides, value_at, ordered_value_at, innermost, entry_lists, same_key, stands_for, with_entry, entry_texts, list_any-append}
use Rattle.smol_str.proofs.TextLemmas.Chars.{stands_for-text}
use Rattle.std.specs.BTreeMap.{BTreeMap, is_at}
use Rattle.std.specs.HashMap.{HashMap}
use Rattle.std.specs.declared.cmp.Ordering.{Ordering}
use Rattle.indexmap.specs.IndexMap.{IndexMap, insert_entry}
use Rattle.smol_str.proofs.CallerLemmas.Values.{list_any-map, texts-push}
use Rattle.std.proofs.lemmas.Map.Text.{is_eq-slice_cmp}
use Rattle.smol_str.specs.declared.value.place.Place.TheVariants.{Inline}

-- ---- maps with values as keys

-- any key of the text t, for what a map's clause says of every key
abbrev pub key_of : List ℕ → Meaning
key_of t = record { text = t; place = Inline }

-- a key of another text is another key: with it, `updates.2` of a change at `key` speaks of `value_at t`
pub same_key-other : (key : Meaning) (t : List ℕ) → ¬ (t ≡ key.text) → same_key key (key_of t) ≡ false
same_key-other key t other = search (rules, false_from_ne_true, bytes_eq-Decides)

-- so after a change at the keys that pass a check, the map has at each other text what it had
pub text-kept : {V : Type 0} (eq : Meaning → Meaning → Bool) (check : Meaning → Bool) (old new : List (Meaning × V))
    → KeepsOthers eq check old new
    → ((q : Meaning) → check q ≡ false → lookup (same_key q) new ≡ lookup (same_key q) old)
    → (KeepsOthers eq check old new ≡ KeepsOthers eq check old new)
    × ((t : List ℕ) → check (key_of t) ≡ false → lookup (λ k. bytes_eq t k.text) new ≡ lookup (λ k. bytes_eq t k.text) old)
text-kept eq check old new keeps others = (refl, λ t apart. others (key_of t) apart)

-- the same of an ordered map, whose keys are compared
pub same_text-other : (s t : List ℕ) → ¬ (t ≡ s) → is_eq (slice_cmp nat_cmp s t) ≡ false
same_text-other s t other = search (rules, false_from_ne_true, is_eq-slice_cmp, bytes_eq-Decides)

pub text-kept_ordered : {V : Type 0} (cmp : Meaning → Meaning → Ordering) (compare : Meaning → Ordering) (old new : BTreeMap Meaning V)
    → KeepsOthers (eq_by_cmp cmp) (is_at compare) old.entries new.entries
    → ((q : Meaning) → is_at compare q ≡ false → ordered_value_at q.text new ≡ ordered_value_at q.text old)
    → (KeepsOthers (eq_by_cmp cmp) (is_at compare) old.entries new.entries ≡ KeepsOthers (eq_by_cmp cmp) (is_at compare) old.entries new.entries)
    × ((t : List ℕ) → is_at compare (key_of t) ≡ false → ordered_value_at t new ≡ ordered_value_at t old)
text-kept_ordered cmp compare old new keeps others = (refl, λ t apart. others (key_of t) apart)

-- and no key of another
pub stands_for-other : (bs t : List ℕ) → ¬ (t ≡ chars bs) → IsUtf8 bs → bytes_eq bs (encode_utf8_all t) ≡ false
stands_for-other bs t other u =
    stands_for-text bs (key_of t) u ∙ false_from_ne_true _ (λ e. other (sym ((bytes_eq-Decides (chars bs) t).0 e)))

pub ruleset updates = (text-kept, same_key-other, text-kept_ordered, same_text-other, stands_for-other)

-- a look-up by a key is one of its text, in the entries seen as texts; so is one by a `&str`
lookup-keyed : {V W : Type 0} (g : V → W) (t : List ℕ) (es : List (Meaning × V))
    → option_map g (lookup (λ key. bytes_eq t key.text) es) ≡ lookup (bytes_eq t) (entry_texts g es)
lookup-keyed g t [] = refl
lookup-keyed g t (e ∷ es) = search (rules, lookup-keyed g t es)

stands_for-is : (bs : List ℕ) → IsUtf8 bs → stands_for bs ≡ (λ key. bytes_eq (chars bs) key.text)
stands_for-is bs u = λ i key. stands_for-text bs key u i

found-at : {V : Type 0} (bs : List ℕ) (es : List (Meaning × V)) → IsUtf8 bs
    → lookup (stands_for bs) es ≡ lookup (λ key. bytes_eq (chars bs) key.text) es
found-at bs es u = ap (λ (test : Meaning → Bool). lookup test es) (stands_for-is bs u)

pub lookup-stands_for : {V W : Type 0} (g : V → W) (bs : List ℕ) (es : List (Meaning × V)) → IsUtf8 bs
    → option_map g (lookup (stands_for bs) es) ≡ lookup (bytes_eq (chars bs)) (entry_texts g es)
lookup-stands_for g bs es u = ap (option_map g) (found-at bs es u) ∙ lookup-keyed g (chars bs) es

-- and so is what such a look-up lends, of values as what is kept
lent : (r : Option (Bor Meaning)) → option_map (λ v. v.now.text) r ≡ option_map (λ (v : Meaning). v.text) (option_copied r)
lent r = search rules

pub value-lent : (r : Option (Bor Meaning)) (bs : List ℕ) (es : List (Meaning × Meaning)) → IsUtf8 bs
    → option_copied r ≡ lookup (stands_for bs) es
    → option_map (λ v. v.now.text) r ≡ lookup (bytes_eq (chars bs)) (entry_texts (λ (v : Meaning). v.text) es)
value-lent r bs es u found = lent r ∙ ap (option_map (λ (v : Meaning). v.text)) found ∙ lookup-stands_for (λ (v : Meaning). v.text) bs es u

-- and the same of a look-up by a key of that text
pub value-keyed : (r : Option (Bor Meaning)) (key : Meaning) (es : List (Meaning × Meaning))
    → option_copied r ≡ lookup (same_key key) es
    → option_map (λ v. v.now.text) r ≡ lookup (bytes_eq key.text) (entry_texts (λ (v : Meaning). v.text) es)
value-keyed r key es found = lent r ∙ ap (option_map (λ (v : Meaning). v.text)) found ∙ lookup-keyed (λ (v : Meaning). v.text) key.text es

-- a look-up by a `&str`, as what the map has at its text
pub value_at-found : {V S : Type 0} (r : Option V) (bs : List ℕ) (m : IndexMap Meaning V S) → IsUtf8 bs
    → r ≡ lookup (stands_for bs) m.entries → r ≡ value_at (chars bs) m
value_at-found r bs m u found = found ∙ found-at bs m.entries u

-- and what is left there
pub value_at-left : {V S : Type 0} (r : Option V) (bs : List ℕ) (m : IndexMap Meaning V S) → IsUtf8 bs
    → lookup (stands_for bs) m.entries ≡ r → value_at (chars bs) m ≡ r
value_at-left r bs m u left = sym (found-at bs m.entries u) ∙ left

-- a value that was taken out, and what is left there, as texts: by a key, and by a `&str`
pub taken : (r : Option Meaning) (key : Meaning) (es : List (Meaning × Meaning)) → r ≡ lookup (same_key key) es
    → option_map (λ v. v.text) r ≡ lookup (bytes_eq key.text) (entry_texts (λ (v : Meaning). v.text) es)
taken r key es found = ap (option_map (λ (v : Meaning). v.text)) found ∙ lookup-keyed (λ (v : Meaning). v.text) key.text es

pub gone : (key : Meaning) (es : List (Meaning × Meaning)) → lookup (same_key key) es ≡ None
    → lookup (bytes_eq key.text) (entry_texts (λ (v : Meaning). v.text) es) ≡ None
gone key es none = sym (taken None key es (sym none))

pub taken_str : (r : Option Meaning) (bs : List ℕ) (es : List (Meaning × Meaning)) → IsUtf8 bs → r ≡ lookup (stands_for bs) es
    → option_map (λ v. v.text) r ≡ lookup (bytes_eq (chars bs)) (entry_texts (λ (v : Meaning). v.text) es)
taken_str r bs es u found = ap (option_map (λ (v : Meaning). v.text)) found ∙ lookup-stands_for (λ (v : Meaning). v.text) bs es u

pub gone_str : (bs : List ℕ) (es : List (Meaning × Meaning)) → IsUtf8 bs → lookup (stands_for bs) es ≡ None
    → lookup (bytes_eq (chars bs)) (entry_texts (λ (v : Meaning). v.text) es) ≡ None
gone_str bs es u none = sym (taken_str None bs es u (sym none))

pub ruleset removed = (taken, gone, taken_str, gone_str)

pub ruleset lookups = (value-lent, value-keyed, lookup-stands_for, value_at-found, value_at-left, removed)

-- an insert into a map of `indexmap`, and into a set: its entries and its keys seen as texts
module _ (eq : Meaning → Meaning → Bool) where
  inserted : {V W : Type 0} (g : V → W) (es : List (Meaning × V)) (k : Meaning) (v : V) → ((x y : Meaning) → eq x y ≡ same_key x y)
      → entry_texts g (insert_entry eq es k v) ≡ with_entry (entry_texts g es) k.text (g v)
  inserted g [] k v same = refl
  inserted g (e ∷ es) k v same = search (rules, same, inserted g es k v same)

  -- of values as what is kept, of lists of values, and of what is kept as it is
  pub values-inserted : (es : List (Meaning × Meaning)) (k v : Meaning) → ((x y : Meaning) → eq x y ≡ same_key x y)
      → entry_texts (λ (v : Meaning). v.text) (insert_entry eq es k v)
      ≡ with_entry (entry_texts (λ (v : Meaning). v.text) es) k.text v.text
  values-inserted es k v same = inserted (λ (v : Meaning). v.text) es k v same

  pub lists-inserted : {Z : Type 0} (es : List (Meaning × Vec Meaning Z)) (k : Meaning) (v : Vec Meaning Z)
      → ((x y : Meaning) → eq x y ≡ same_key x y)
      → entry_texts (λ v. texts v.items) (insert_entry eq es k v)
      ≡ with_entry (entry_texts (λ v. texts v.items) es) k.text (texts v.items)
  lists-inserted es k v same = inserted (λ v. texts v.items) es k v same

  pub entries-inserted : {V : Type 0} (es : List (Meaning × V)) (k : Meaning) (v : V) → ((x y : Meaning) → eq x y ≡ same_key x y)
      → entry_texts (λ (v : V). v) (insert_entry eq es k v) ≡ with_entry (entry_texts (λ (v : V). v) es) k.text v
  entries-inserted {V} es k v same = inserted (λ (v : V). v) es k v same

-- a set of `indexmap`, as texts: a key more, unless an equal one is there; and asked by a value
pub texts-kept : (b : Bool) (ks : List Meaning) (k : Meaning)
    → texts (if b then ks else ks ++ k ∷ []) ≡ (if b then texts ks else texts ks ++ k.text ∷ [])
texts-kept true ks k = refl
texts-kept false ks k = texts-push ks k

pub among-keyed : (k : Meaning) (ks : List Meaning) → list_any (bytes_eq k.text) (texts ks) ≡ list_any (same_key k) ks
among-keyed k ks = sym (list_any-map (λ (v : Meaning). v.text) (bytes_eq k.text) ks)

-- a set that is asked by a `&str`
pub among-lent : (bs : List ℕ) (ks : List Meaning) → IsUtf8 bs → list_any (bytes_eq (chars bs)) (texts ks) ≡ list_any (stands_for bs) ks
among-lent bs ks u =
    sym (list_any-map (λ (v : Meaning). v.text) (bytes_eq (chars bs)) ks) ∙ ap (λ (test : Meaning → Bool). list_any test ks) (sym (stands_for-is bs u))

-- a set with one more, as std's and `indexmap`'s say it
pub has-added : (old new : List Meaning) (k : Meaning)
    → ((q : Meaning) → list_any (same_key q) new ≡ cond (same_key k q) true (list_any (same_key q) old))
    → (t : List ℕ) → list_any (bytes_eq t) (texts new) ≡ (list_any (bytes_eq t) (texts old) || bytes_eq t k.text)
has-added old new k added t =
    grind (arith, added (key_of t), among-keyed (key_of t) new, among-keyed (key_of t) old, bytes_eq-Decides)

-- an insert, and then a look-up by a `&str` of the same text. `grind` takes the second part at each `chars bs` in sight
itself : (k : Meaning) → same_key k k ≡ true
itself k = (bytes_eq-Decides k.text k.text).1 refl

put_found : {V : Type 0} (eq : Meaning → Meaning → Bool) (es : List (Meaning × V)) (k : Meaning) (v : V)
    → ((x y : Meaning) → eq x y ≡ same_key x y) → lookup (same_key k) (insert_entry eq es k v) ≡ Some v
put_found eq [] k v is = search (rules, itself)
put_found eq (e ∷ es) k v is = search (rules, is, put_found eq es k v is)

kept_found : (b : Bool) (ks : List Meaning) (k : Meaning) → b ≡ list_any (same_key k) ks
    → list_any (same_key k) (if b then ks else ks ++ k ∷ []) ≡ true
kept_found true ks k there = sym there
kept_found false ks k there = grind (arith, common_steps, list_any-append (same_key k) ks (k ∷ []), itself)

-- a `&str` of a key's text matches the keys that it equals
stands_for-keyed : (k : Meaning) (bs : List ℕ) → k.text ≡ chars bs → IsUtf8 bs → stands_for bs ≡ same_key k
stands_for-keyed k bs same u = stands_for-is bs u ∙ (λ i key. bytes_eq (sym same i) key.text)

pub entry-put : {V : Type 0} (eq : Meaning → Meaning → Bool) (es : List (Meaning × V)) (k : Meaning) (v : V)
    → ((x y : Meaning) → eq x y ≡ same_key x y) → (insert_entry eq es k v ≡ insert_entry eq es k v)
    × ((bs : List ℕ) → k.text ≡ chars bs → IsUtf8 bs
    → (chars bs ≡ chars bs) × (lookup (stands_for bs) (insert_entry eq es k v) ≡ Some v))
entry-put eq es k v is =
    (refl, λ bs same u. (refl, ap (λ (test : Meaning → Bool). lookup test (insert_entry eq es k v)) (stands_for-keyed k bs same u) ∙ put_found eq es k v is))

pub key-put : (b : Bool) (ks : List Meaning) (k : Meaning) → b ≡ list_any (same_key k) ks
    → ((if b then ks else ks ++ k ∷ []) ≡ (if b then ks else ks ++ k ∷ []))
    × ((bs : List ℕ) → k.text ≡ chars bs → IsUtf8 bs
    → (chars bs ≡ chars bs) × (list_any (stands_for bs) (if b then ks else ks ++ k ∷ []) ≡ true))
key-put b ks k there =
    let asked = λ (test : Meaning → Bool). list_any test (if b then ks else ks ++ k ∷ []) in
    (refl, λ bs same u. (refl, ap asked (stands_for-keyed k bs same u) ∙ kept_found b ks k there))

pub ruleset inserts = (values-inserted, entries-inserted, texts-kept, among-keyed, among-lent, has-added)

pub ruleset put_and_asked = (entry-put, key-put)

-- an entry that is set is found at its text, and leaves what is found at others
pub lookup-with_entry : {V : Type 0} (key t : List ℕ) (v : V) (es : List (List ℕ × V))
    → lookup (bytes_eq key) (with_entry es t v) ≡ cond (bytes_eq key t) (Some v) (lookup (bytes_eq key) es)
lookup-with_entry key t v [] = refl
lookup-with_entry key t v (e ∷ es) =
    search (rules, arith, bytes_eq-Decides, false≢true, false_from_ne_true, lookup-with_entry key t v es)

-- ---- maps one inside another, the innermost last

option_or-assoc : {V : Type 0} (a b c : Option V) → option_or (option_or a b) c ≡ option_or a (option_or b c)
option_or-assoc None b c = refl
option_or-assoc (Some v) b c = refl

set-last : {M : Type 0} (xs : List M) (i : ℕ) (m : M) → i + 1 ≡ length xs → set xs i m ≡ take i xs ++ m ∷ []
set-last xs i m e = let more = take_more_set xs i m (omega arith) in grind (arith, common_steps, more)

-- one map more, a change of the last, and what this leaves
module _ {V S : Type 0} (t : List ℕ) where
  pub innermost-push : (ms : List (HashMap Meaning V S)) (m : HashMap Meaning V S)
      → innermost t (entry_lists (ms ++ m ∷ [])) ≡ option_or (value_at t m) (innermost t (entry_lists ms))
  innermost-push [] m = search rules
  innermost-push (n ∷ ms) m =
      ap (λ o. option_or o (value_at t n)) (innermost-push ms m)
      ∙ option_or-assoc (value_at t m) (innermost t (entry_lists ms)) (value_at t n)

  pub innermost-set : (ms : List (HashMap Meaning V S)) (i : ℕ) (m : HashMap Meaning V S) → i + 1 ≡ length ms
      → innermost t (entry_lists (set ms i m)) ≡ option_or (value_at t m) (innermost t (entry_lists (take i ms)))
  innermost-set ms i m e = ap (λ ms. innermost t (entry_lists ms)) (set-last ms i m e) ∙ innermost-push (take i ms) m

  pub innermost-kept : (ms : List (HashMap Meaning V S)) (i : ℕ) (m n : HashMap Meaning V S) → i + 1 ≡ length ms
      → m ≡ get_or ms i m → value_at t n ≡ value_at t m
      → innermost t (entry_lists (set ms i n)) ≡ innermost t (entry_lists ms)
  innermost-kept ms i m n e is same =
      let last : ms ≡ take i ms ++ m ∷ [] = grind (arith, common_steps) in
      cc (innermost-set ms i n e, ap (λ ms. innermost t (entry_lists ms)) last, innermost-push (take i ms) m)

-- seen as lists, the others stay
pub take-changed : {M N : Type 0} (f : M → N) (ms : List M) (n i : ℕ) (m : M) → n ≤ i
    → take n (map f (set ms i m)) ≡ take n (map f ms)
take-changed f ms n i m low = take-map f n (set ms i m) ∙ ap (map f) (take-set-le n ms i m low) ∙ sym (take-map f n ms)

pub ruleset scopes = (innermost-push, innermost-set, innermost-kept, take-changed, length-map)
