-- For the laws of cuts and first matches: each text has one cut at a pattern, and `cut` is it.
use Rattle.smol_str.proofs.Common.{◌≡◌, ◌↔◌, Bool, true, false, cond, Option, Some, None, ◌⊎◌, inl, inr, ⊎_elim, option_map, unwrap_or, MatchOption, refl, sym, ap, ◌∙◌, rules, ℕ, ◌+◌, ◌-◌, ◌<◌, ◌≤◌, zero, suc, min, arith, nat_eq, false≢true, false_from_ne_true, Decides-eqb}
use Rattle.smol_str.proofs.Common.{List, [], ◌∷◌, ◌++◌, length, drop, length-append, append_assoc, append-nil, take-append-drop, concat, starts_with, flat_map, take_at, take-append-le, append_cancel_left, All, All-nil, All-cons, All-head, All-tail, Occurs, but_last, IsFirstAfter, joined_by, IsCutAt, IsSpelled, IsCutBetween, IsCut, split_at_first, cut_at, spell, cut_between, cut}
use Rattle.std.proofs.lemmas.Slice.Eq.{starts_is}
pub use Rattle.smol_str.proofs.TextLemmas.Lists.{head_same, tail_same}
use Rattle.smol_str.proofs.TextLemmas.Lists.{not_later, length_but_last}

-- pieces joined, a piece at a time
pub joined_one : (p q : List ℕ) → joined_by p (q ∷ []) ≡ q
joined_one p q = append-nil q

pub joined_more : (p q r : List ℕ) (rs : List (List ℕ)) → joined_by p (q ∷ r ∷ rs) ≡ q ++ (p ++ joined_by p (r ∷ rs))
joined_more p q r rs = ap (λ xs. q ++ xs) (append_assoc p r (flat_map (λ y. p ++ y) rs))

-- the last item, as a list
abbrev pub last_part : List ℕ → List ℕ
last_part p = drop (length (but_last p)) p

two_parts : (p r : List ℕ) → but_last p ++ (last_part p ++ r) ≡ p ++ r
two_parts (x ∷ y ∷ rest) r = cc (two_parts (y ∷ rest) r)
two_parts p r = refl

-- q followed by p is q and p without its last character, and then that character
pub append-last_part : (p q x : List ℕ) → q ++ (p ++ x) ≡ (q ++ but_last p) ++ (last_part p ++ x)
append-last_part p q x = sym (append_assoc q (but_last p) (last_part p ++ x) ∙ ap (λ s. q ++ s) (two_parts p x))

-- a piece of one character
abbrev One : List ℕ → Type 0
One r = length r ≡ 1

-- a text that begins with p, and goes on to a later match
occurs_before : (p q x y : List ℕ) → 0 < length p → 0 < length q → p ++ x ≡ q ++ (p ++ y) → Occurs p (q ++ but_last p)
occurs_before p q x y some more e =
    let s = q ++ but_last p in
    let long : length p ≤ length s = omega (arith, length-append q (but_last p), length_but_last p) in
    let begins = take-append-le (length p) s (last_part p ++ y) long in
    let front = take_at p x (length p) refl in
    ([], drop (length p) s, cc (take-append-drop (length p) s, begins, front, append-last_part p q y))

-- the first match is the one after the shortest text
shortest : (p q a r s : List ℕ) → 0 < length p → q ++ (p ++ r) ≡ a ++ (p ++ s) → IsFirstAfter p q → length q ≤ length a
shortest p [] a r s some e f = omega arith
shortest p (c ∷ q) [] r s some e f = absurd (f (occurs_before p (c ∷ q) s r some (omega arith) (sym e)))
shortest p (c ∷ q) (d ∷ a) r s some e f =
    omega (arith, shortest p q a r s some (tail_same c d _ _ e) (not_later p c (q ++ but_last p) f))

-- there is one first match
pub one_first : (p q q' x y : List ℕ) → 0 < length p → q ++ (p ++ x) ≡ q' ++ (p ++ y) → IsFirstAfter p q →
    IsFirstAfter p q' → q ≡ q'
one_first p q q' x y some e f g =
    let long : length q ≡ length q' =
    omega (arith, shortest p q q' x y some e f, shortest p q' q y x some (sym e) g) in
    cc (take_at q (p ++ x) (length q) refl, take_at q' (p ++ y) (length q) (sym long))

-- so two texts that are cut at their first matches are cut alike
pub same_parts : (p q q' x y : List ℕ) → 0 < length p → q ++ (p ++ x) ≡ q' ++ (p ++ y) → IsFirstAfter p q →
    IsFirstAfter p q' → (q ≡ q') × (x ≡ y)
same_parts p q q' x y some e f g =
    let same = one_first p q q' x y some e f g in
    let rest = append_cancel_left q (p ++ x) (p ++ y) (e ∙ ap (λ l. l ++ (p ++ y)) (sym same)) in
    (same, append_cancel_left p x y rest)

-- p that occurs in q and p without its last character occurs in q followed by p, before q's end
pub sooner : (p q r : List ℕ) → 0 < length p → (o : Occurs p (q ++ but_last p))
    → (q ++ (p ++ r) ≡ o.0 ++ (p ++ (o.1 ++ (last_part p ++ r)))) × (length o.0 < length q)
sooner p q r some (a, s, e) = (
  cc (append-last_part p q r, append_assoc a (p ++ s) (last_part p ++ r), append_assoc p s (last_part p ++ r)),
  omega (arith, ap length e, length-append {A = ℕ}, length_but_last p),
)

pub first-shortest : (p q r : List ℕ) → 0 < length p →
    IsFirstAfter p q ↔ ((a s : List ℕ) → q ++ (p ++ r) ≡ a ++ (p ++ s) → length q ≤ length a)
first-shortest p q r some = (
  λ f a s e. shortest p q a r s some e f,
  λ least o. let h = sooner p q r some o in omega (arith, least o.0 (o.1 ++ (last_part p ++ r)) h.0, h.1),
)

-- without its first piece a cut is a cut of what is left
rest_cut : (t p : List ℕ) (n : ℕ) (q r : List ℕ) (rs : List (List ℕ)) → IsCutAt t p n (q ∷ r ∷ rs) →
    IsCutAt (joined_by p (r ∷ rs)) p (n - 1) (r ∷ rs)
rest_cut t p n q r rs h = search (rules, arith, All-tail (IsFirstAfter p) q (but_last (r ∷ rs)) h.first)

pub IsCutAt-unique : (xs ys : List (List ℕ)) (t p : List ℕ) (n : ℕ) → 0 < length p → IsCutAt t p n xs →
    IsCutAt t p n ys → xs ≡ ys
IsCutAt-unique (q ∷ []) (q' ∷ []) t p n some h k = search (rules, joined_one)
IsCutAt-unique (q ∷ []) (q' ∷ r' ∷ rs') t p n some h k = search (rules, arith, joined_one, joined_more)
IsCutAt-unique (q ∷ r ∷ rs) (q' ∷ []) t p n some h k = search (rules, arith, joined_one, joined_more)
IsCutAt-unique (q ∷ r ∷ rs) (q' ∷ r' ∷ rs') t p n some h k =
    let whole : q ++ (p ++ joined_by p (r ∷ rs)) ≡ q' ++ (p ++ joined_by p (r' ∷ rs')) =
    cc (joined_more p q r rs, joined_more p q' r' rs', h.joined, k.joined) in
    let same = one_first p q q' (joined_by p (r ∷ rs)) (joined_by p (r' ∷ rs')) some whole
    (All-head (IsFirstAfter p) q _ h.first) (All-head (IsFirstAfter p) q' _ k.first) in
    let left : joined_by p (r' ∷ rs') ≡ joined_by p (r ∷ rs) =
    append_cancel_left p _ _ (append_cancel_left q _ _ (cc)) in
    cc (IsCutAt-unique (r ∷ rs) (r' ∷ rs') _ p (n - 1) some (rest_cut t p n q r rs h)
    (rw left at (rest_cut t p n q' r' rs' k)))
IsCutAt-unique xs ys t p n some h k = absurd (omega arith)

-- a first match in front of a cut
pub IsCutAt-step : (t p q r : List ℕ) (n : ℕ) (pieces : List (List ℕ)) → t ≡ q ++ (p ++ r) → IsFirstAfter p q →
    IsCutAt r p n pieces → IsCutAt t p (n + 1) (q ∷ pieces)
IsCutAt-step t p q r n [] e none h = absurd (omega arith)
IsCutAt-step t p q r n (s ∷ ss) e none h =
    search (rules, arith, joined_more, All-cons (IsFirstAfter p) q (but_last (s ∷ ss)) none h.first)

pub IsCutAt-unmatched : (t p : List ℕ) (n : ℕ) → ¬ Occurs p t → IsCutAt t p n (t ∷ [])
IsCutAt-unmatched t p n none = search (rules, arith, joined_one, All-nil)

-- an occurrence begins here or later
pub occurs_cases : (p : List ℕ) (c : ℕ) (t a r : List ℕ) → c ∷ t ≡ a ++ (p ++ r) →
    ((y : List ℕ) × (c ∷ t ≡ p ++ y)) ⊎ Occurs p t
occurs_cases p c t [] r e = inl (r, e)
occurs_cases p c t (d ∷ a) r e = inr (a, r, tail_same c d t (a ++ (p ++ r)) e)

starts_with-true : (p s : List ℕ) → starts_with nat_eq s p ≡ true → s ≡ p ++ drop (length p) s
starts_with-true p s e = (starts_is Decides-eqb s p (starts_with nat_eq s p) refl).0 e

starts_with-false : (p s x : List ℕ) → starts_with nat_eq s p ≡ false → ¬ (s ≡ p ++ x)
starts_with-false p s x e h = false≢true (sym e ∙ (starts_is Decides-eqb s p (starts_with nat_eq s p) refl).1 x h)

pub starts_with-nowhere : (p s : List ℕ) → ((r : List ℕ) → ¬ (s ≡ p ++ r)) → starts_with nat_eq s p ≡ false
starts_with-nowhere p s none = false_from_ne_true (starts_with nat_eq s p) (λ yes. none (drop (length p) s) (starts_with-true p s yes))

too_long : (p : List ℕ) → 0 < length p → ¬ Occurs p (but_last p)
too_long p some o = omega (arith, length_but_last p, ap length o.2, length-append o.0 (p ++ o.1), length-append p o.1)

-- p and what may come before it
abbrev First : List ℕ → List ℕ → List ℕ × List ℕ → Type 0
First p t m = (t ≡ m.0 ++ (p ++ m.1)) × (IsFirstAfter p m.0)

first_step : (p : List ℕ) (c : ℕ) (t : List ℕ) → 0 < length p → (b : Bool) → starts_with nat_eq (c ∷ t) p ≡ b →
    (o : Option (List ℕ × List ℕ)) → MatchOption o (¬ Occurs p t) (First p t) →
    MatchOption (cond b (Some ([], drop (length p) (c ∷ t))) (option_map (λ m. (c ∷ m.0, m.1)) o))
    (¬ Occurs p (c ∷ t)) (First p (c ∷ t))
first_step p c t some false e (Some m) h = (
  ap (λ s. c ∷ s) h.0,
  λ o.
      let later = append-last_part p (c ∷ m.0) m.1 in
      ⊎_elim
      (λ x. starts_with-false p (c ∷ t) (x.0 ++ (last_part p ++ m.1)) e
      (cc (later, append_assoc p x.0 (last_part p ++ m.1))))
      h.1
      (occurs_cases p c (m.0 ++ but_last p) o.0 o.1 o.2),
)
first_step p c t some b e o h = search (rules, starts_with-true, starts_with-false, occurs_cases, too_long)

pub first_found : (p t : List ℕ) → 0 < length p → MatchOption (split_at_first p t) (¬ Occurs p t) (First p t)
first_found p [] some = λ o. omega (arith, ap length o.2, length-append o.0 (p ++ o.1), length-append p o.1)
first_found p (c ∷ t) some = search (rules, first_step, first_found p t some)

cut_step : (n : ℕ) (p t : List ℕ) (rec : (s : List ℕ) → IsCutAt s p n (cut_at n p s)) →
    (o : Option (List ℕ × List ℕ)) → MatchOption o (¬ Occurs p t) (First p t)
    → IsCutAt t p (n + 1) (unwrap_or (option_map (λ m. m.0 ∷ cut_at n p m.1) o) (t ∷ []))
cut_step n p t rec None h = IsCutAt-unmatched t p (n + 1) h
cut_step n p t rec (Some m) h = IsCutAt-step t p m.0 m.1 n (cut_at n p m.1) h.0 h.1 (rec m.1)

pub IsCutAt-cut : (n : ℕ) (p t : List ℕ) → 0 < length p → IsCutAt t p n (cut_at n p t)
IsCutAt-cut zero p t some = search (rules, arith, joined_one, All-nil)
IsCutAt-cut (suc n) p t some =
    let next : suc n ≡ n + 1 = omega arith in
    rw next (cut_step n p t (λ s. IsCutAt-cut n p s some) (split_at_first p t) (first_found p t some))

-- at the empty pattern
one_spelling : (xs ys : List (List ℕ)) → length xs ≡ length ys → All One (but_last xs) → All One (but_last ys) →
    concat xs ≡ concat ys → xs ≡ ys
one_spelling [] [] l h k e = refl
one_spelling (x ∷ []) (y ∷ []) l h k e = cc (append-nil x, append-nil y)
one_spelling ((a ∷ []) ∷ w ∷ xs) ((b ∷ []) ∷ z ∷ ys) l h k e =
    let left = tail_same a b _ _ e in
    let rest = one_spelling (w ∷ xs) (z ∷ ys) (omega arith) (All-tail One _ _ h) (All-tail One _ _ k) left in
    cc (head_same a b _ _ e)
one_spelling (x ∷ w ∷ xs) (y ∷ z ∷ ys) l h k e = absurd (omega (arith, All-head One x _ h, All-head One y _ k))
one_spelling xs ys l h k e = absurd (omega arith)

one_between_at : (m : ℕ) (xs ys : List (List ℕ)) (t : List ℕ) → length xs ≡ m + 1 → length ys ≡ m + 1 →
    concat xs ≡ t → concat ys ≡ t → (0 < m → IsSpelled xs) → (0 < m → IsSpelled ys) → xs ≡ ys
one_between_at zero (x ∷ []) (y ∷ []) t l k e f g h = cc (append-nil x, append-nil y)
one_between_at (suc m) (x ∷ xs) (y ∷ ys) t l k e f g h =
    let a = g (omega arith) in
    let b = h (omega arith) in
    cc (a.0, b.0, one_spelling xs ys (omega arith) a.1 b.1 (cc (a.0, b.0)))
one_between_at m xs ys t l k e f g h = absurd (omega arith)

pub IsCut-unique : (t p : List ℕ) (n : ℕ) (xs ys : List (List ℕ)) → IsCut t p n xs → IsCut t p n ys → xs ≡ ys
IsCut-unique t [] n xs ys h k = search (rules, one_between_at)
IsCut-unique t (c ∷ p) n xs ys h k = IsCutAt-unique xs ys t (c ∷ p) n (omega arith) h k

spell_is : (n : ℕ) (t : List ℕ) →
    (length (spell n t) ≡ min n (length t) + 1) × (concat (spell n t) ≡ t) × All One (but_last (spell n t))
spell_is (suc n) (c ∷ t) = let k = spell_is n t in search (rules, arith, k, All-nil, All-cons)
spell_is n t = (omega arith, append-nil t, All-nil One)

pub IsCutBetween-cut : (n : ℕ) (t : List ℕ) → IsCutBetween t n (cut_between n t)
IsCutBetween-cut zero t = search (rules, append-nil)
IsCutBetween-cut (suc n) t = let k = spell_is n t in search (rules, k)

pub IsCut-cut : (t p : List ℕ) (n : ℕ) → IsCut t p n (cut t p n)
IsCut-cut t p n = search (rules, IsCutBetween-cut, IsCutAt-cut)
