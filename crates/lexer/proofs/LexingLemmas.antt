-- For the law of one cut into tokens: where two of them begin a text, they are one.
use Rattle.std.proofs.Common.{◌≡◌, ℕ, ◌⊎◌, inl, inr, ⊎_elim, List, [], ◌∷◌, ◌++◌, length, drop, get_or, refl, sym, ap, ◌∙◌, subst, arith, append-nil}
use Rattle.std.specs.List.{All, concat}
use Rattle.std.proofs.lemmas.List.{append_cancel_left}
use Rattle.std.proofs.lemmas.List.Elements.{All-head, All-tail}
use Rattle.lexer.specs.Tokens.{IsToken, IsLongest, AreLongest}

-- of two fronts of a text, one is a front of the other
fronts : (x y a b : List ℕ) → x ++ a ≡ y ++ b
    → ((more : List ℕ) × (y ≡ x ++ more) × (a ≡ more ++ b)) ⊎ ((more : List ℕ) × (x ≡ y ++ more) × (b ≡ more ++ a))
fronts [] y a b e = inl (y, refl, e)
fronts (c ∷ x) [] a b e = inr (c ∷ x, refl, sym e)
fronts (c ∷ x) (d ∷ y) a b e =
    let head : c ≡ d = ap (λ l. get_or l 0 0) e in
    ⊎_elim (λ h. inl (h.0, (λ i. sym head i ∷ h.1 i), h.2)) (λ h. inr (h.0, (λ i. head i ∷ h.1 i), h.2))
    (fronts x y a b (ap (drop 1) e))

-- a longer one is none
no_longer : (x y a b more : List ℕ) → y ≡ x ++ more → a ≡ more ++ b → IsToken y → IsLongest x a → x ≡ y
no_longer x y a b more is left token longest =
    sym (is ∙ ap (λ l. x ++ l) (longest more b left (subst IsToken is token)) ∙ append-nil x)

one_first : (x y a b : List ℕ) → x ++ a ≡ y ++ b → IsToken x → IsToken y → IsLongest x (a ++ []) → IsLongest y (b ++ [])
    → x ≡ y
one_first x y a b e token other longest longest_too = ⊎_elim
    (λ h. no_longer x y a b h.0 h.1 h.2 other (subst (IsLongest x) (append-nil a) longest))
    (λ h. sym (no_longer y x b a h.0 h.1 h.2 token (subst (IsLongest y) (append-nil b) longest_too)))
    (fronts x y a b e)

some : (t : List ℕ) (ts : List (List ℕ)) → IsToken t → ¬ (concat (t ∷ ts) ≡ [])
some [] ts token = λ e. token
some (c ∷ t) ts token = λ e. omega (arith, ap length e)

pub one_cut : (xs ys : List (List ℕ)) → concat xs ≡ concat ys → All IsToken xs → All IsToken ys
    → AreLongest xs [] → AreLongest ys [] → xs ≡ ys
one_cut [] [] e k l p q = refl
one_cut [] (y ∷ ys) e k l p q = absurd (some y ys (All-head IsToken y ys l) (sym e))
one_cut (x ∷ xs) [] e k l p q = absurd (some x xs (All-head IsToken x xs k) e)
one_cut (x ∷ xs) (y ∷ ys) e k l p q =
    let same = one_first x y (concat xs) (concat ys) e (All-head IsToken x xs k) (All-head IsToken y ys l) p.0 q.0 in
    let rest = append_cancel_left x (concat xs) (concat ys) (e ∙ ap (λ t. t ++ concat ys) (sym same)) in
    let others = one_cut xs ys rest (All-tail IsToken x xs k) (All-tail IsToken y ys l) p.1 q.1 in
    λ i. same i ∷ others i
