-- For comparisons and the law of byte order: the order of texts is the order of their bytes.
use Rattle.smol_str.proofs.Common.{◌≡◌, ℕ, ◌<◌, List, [], ◌∷◌, ◌++◌, refl, arith, encode, encodes, slice_cmp, nat_list_cmp_total, nat_cmp, nat_tests, cases_order, common_steps, rules}
use Rattle.smol_str.proofs.TextLemmas.Utf8.{form}
use Rattle.std.specs.declared.cmp.Ordering.TheVariants.{Less, Equal, Greater}

pub nat_cmp-less : (a b : ℕ) → a < b → nat_cmp a b ≡ Less
nat_cmp-less a b h = grind (arith, nat_tests)

pub nat_cmp-same : (a : ℕ) → nat_cmp a a ≡ Equal
nat_cmp-same a = grind (arith, nat_tests)

pub nat_cmp-greater : (a b : ℕ) → b < a → nat_cmp a b ≡ Greater
nat_cmp-greater a b h = grind (arith, nat_tests)

-- the first byte decides
pub less_head : (a b : ℕ) (xs ys : List ℕ) → a < b → slice_cmp nat_cmp (a ∷ xs) (b ∷ ys) ≡ Less
less_head a b xs ys h = rw (nat_cmp-less a b h)

-- or is equal
pub same_head : (a b : ℕ) (xs ys : List ℕ) → a ≡ b → slice_cmp nat_cmp xs ys ≡ Less →
    slice_cmp nat_cmp (a ∷ xs) (b ∷ ys) ≡ Less
same_head a b xs ys e h = rw (e, nat_cmp-same b) h

-- a common front changes nothing
pub slice_cmp-front : (p xs ys : List ℕ) → slice_cmp nat_cmp (p ++ xs) (p ++ ys) ≡ slice_cmp nat_cmp xs ys
slice_cmp-front [] xs ys = refl
slice_cmp-front (a ∷ p) xs ys = rw (nat_cmp-same a) (slice_cmp-front p xs ys)

-- the bytes of the lower character come first
encode-less : (c d : ℕ) (xs ys : List ℕ) → c < d → slice_cmp nat_cmp (encode c ++ xs) (encode d ++ ys) ≡ Less
encode-less c d xs ys h = grind (arith, common_steps, form)

pub order-texts : (s t : List ℕ) → slice_cmp nat_cmp (encodes s) (encodes t) ≡ slice_cmp nat_cmp s t
order-texts (c ∷ s) (d ∷ t) =
    grind (arith, nat_tests, cases_order, slice_cmp-front, encode-less, nat_list_cmp_total, order-texts s t)
order-texts s t = search (rules, form)
