-- That the texts of items, one after another, are what `Piece` says of each kind of item.
--     joined-chars          of characters: the characters themselves
--     joined-strs, joined-string_refs       of what is lent: the texts of what the items refer to
use Rattle.std.specs.Prelude.{◌≡◌, ℕ, List, [], ◌∷◌, ◌++◌, String, map}
use Rattle.std.proofs.Common.{refl, ap, ◌∙◌}
use Rattle.std.specs.Str.{chars}
use Rattle.std.specs.declared.alloc.Global.{Global}
use denote.Ref.{Bor}
use Rattle.smol_str.specs.Joined.{joined, joined_strs, joined_string_refs, char_text, str_text, string_text, string_ref_text}

pub joined-chars : (xs : List ℕ) → joined char_text xs ≡ xs
joined-chars [] = refl
joined-chars (x ∷ xs) = ap (λ ys. x ∷ ys) (joined-chars xs)

-- the texts of items whose texts h reads off what v shows of them
pub joined-map : {A B : Type 0} (f : A → List ℕ) (h : B → List ℕ) (v : A → B) (xs : List A)
    → ((x : A) → f x ≡ h (v x)) → joined f xs ≡ joined h (map v xs)
joined-map f h v [] e = refl
joined-map f h v (x ∷ xs) e = ap (λ t. t ++ joined f xs) (e x) ∙ ap (λ t. h (v x) ++ t) (joined-map f h v xs e)

pub joined-strs : (xs : List (Bor (List ℕ))) → joined str_text xs ≡ joined_strs xs
joined-strs xs = joined-map str_text chars (λ s. s.now) xs (λ s. refl)

pub joined-string_refs : (xs : List (Bor (String Global))) → joined string_ref_text xs ≡ joined_string_refs xs
joined-string_refs xs = joined-map string_ref_text string_text (λ s. s.now) xs (λ s. refl)
