-- For the lexer: the longest token that a text begins with, where a text is cut behind it, and one token more.
use Rattle.std.proofs.Common.{◌≡◌, ◌≢◌, ℕ, ◌-◌, List, [], ◌∷◌, ◌++◌, length, take, drop, true, refl, sym, ap, ◌∙◌, subst, arith, append_assoc, append-nil}
use Rattle.std.specs.List.{All, concat, flat_map}
use Rattle.std.specs.Str.{chars, IsUtf8, IsCharBoundary}
use Rattle.std.proofs.lemmas.Bool.{both_ways}
use Rattle.std.proofs.lemmas.List.{map-append}
use Rattle.std.proofs.lemmas.List.Concat.{flat_map-append}
use Rattle.std.proofs.lemmas.List.Folds.{concat-append}
use Rattle.std.proofs.lemmas.List.Elements.{All-head, All-push, All-tail}
use Rattle.smol_str.specs.Text.{size, place_of}
use Rattle.smol_str.specs.Meaning.{Meaning, IsValueOf}
use Rattle.smol_str.proofs.CallerLemmas.{size-chars, size-append, boundary-parts, chars-take, chars-drop}
use Rattle.smol_str.specs.Meaning.{texts}
use Rattle.lexer.specs.Tokens.{IsToken, IsLongest, AreLongest, IsFirstToken, Stops, IsLeftIn, IsLeftAfter, goes_on}

-- ---- the longest token

-- one character more goes on
pub IsLeftIn-push : (c d : ℕ) (text rest t : List ℕ) → IsLeftIn c text rest → rest ≡ d ∷ t → goes_on c d ≡ true
    → IsLeftIn c text t
IsLeftIn-push c d text rest t (run, whole, passes) first on =
    let longer = All-push (λ x. goes_on c x ≡ true) run d passes on in
    (run ++ d ∷ [], rw append_assoc (whole ∙ ap (λ l. run ++ l) first), longer)

-- what stands behind characters that go on
passes-after : (c d : ℕ) (run more : List ℕ) → All (λ x. goes_on c x ≡ true) (run ++ d ∷ more)
    → goes_on c d ≡ true
passes-after c d [] more passes = All-head (λ x. goes_on c x ≡ true) d more passes
passes-after c d (x ∷ run) more passes =
    passes-after c d run more (All-tail (λ y. goes_on c y ≡ true) x (run ++ d ∷ more) passes)

longest-run : (c : ℕ) (run left : List ℕ) → Stops c left → IsLongest (c ∷ run) left
longest-run c run left stops = λ more after e token. by left more after stops e token where
  by : (left more after : List ℕ) → Stops c left → left ≡ more ++ after → IsToken ((c ∷ run) ++ more) → more ≡ []
  by left [] after stops e token = refl
  by left (d ∷ more) after stops e token = absurd (both_ways _ (rw e at stops) (passes-after c d run more token))

-- ---- the first token of a text that begins with c, and where the text is cut behind it

module _ (text rest after : List ℕ) (c : ℕ) (u : IsUtf8 text) (v : IsUtf8 after) (first : chars text ≡ c ∷ chars rest)
    (left : IsLeftAfter c (chars rest) (chars after)) where
  abbrev characters : List ℕ
  characters = c ∷ left.0.0

  whole : chars text ≡ characters ++ chars after
  whole = first ∙ ap (λ l. c ∷ l) left.0.1

  size-characters : size characters ≡ length text - length after
  size-characters =
      let sizes = ap size whole ∙ size-append characters (chars after) in
      omega (arith, sizes, size-chars text u, size-chars after v)

  pub boundary : IsCharBoundary text (length text - length after)
  boundary = boundary-parts text characters (chars after) (length text - length after) u whole size-characters

  pub first-token : (token back : List ℕ) → token ≡ take (length text - length after) text
      → back ≡ drop (length text - length after) text → IsFirstToken (chars text) (chars token) (chars back)
  first-token token back e f =
      let front = ap chars e ∙ chars-take text characters (chars after) (length text - length after) u whole size-characters in
      let behind = ap chars f ∙ chars-drop text characters (chars after) (length text - length after) u whole size-characters in
      record {
        whole = rw (front, behind) whole;
        kind = rw front left.0.2;
        longest = rw (front, behind) (longest-run c left.0.0 (chars after) left.1);
      }

-- ---- the tokens so far

pushed : (ts : List (List ℕ)) (t left : List ℕ) → concat ts ++ (t ++ left) ≡ concat (ts ++ t ∷ []) ++ left
pushed ts t left = rw (concat-append ts (t ∷ []), append-nil t) (sym (append_assoc (concat ts) t left))

pub AreLongest-push : (ts : List (List ℕ)) (t left : List ℕ) → AreLongest ts (t ++ left) → IsLongest t left
    → AreLongest (ts ++ t ∷ []) left
AreLongest-push [] t left before longest = (longest, tt)
AreLongest-push (u ∷ ts) t left (first, others) longest =
    (subst (IsLongest u) (pushed ts t left) first, AreLongest-push ts t left others longest)

-- ---- the lexer's loop: the tokens so far, and what is left of the source

pub record Lexed (source : List ℕ) (tokens : List Meaning) (left : List ℕ) : Type 0 where
  pub lossless : flat_map (λ token. token.text) tokens ++ left ≡ source
  pub kinds : All (λ token. IsToken token.text) tokens
  pub longest : AreLongest (texts tokens) left
  pub places : All (λ token. token.place ≡ place_of token.text) tokens

pub Lexed-push : (source : List ℕ) (tokens : List Meaning) (text t left : List ℕ) (token : Meaning)
    → Lexed source tokens text → IsFirstToken text t left → IsValueOf t token → Lexed source (tokens ++ token ∷ []) left
Lexed-push source tokens text t left token so_far first value =
    let is = value.text in
    let parts = append_assoc (flat_map (λ (v : Meaning). v.text) tokens) t left ∙ rw (← first.whole) so_far.lossless in
    let longest = AreLongest-push (texts tokens) t left (rw first.whole at so_far.longest) first.longest in
    record {
      lossless = rw (flat_map-append (λ (v : Meaning). v.text) tokens (token ∷ []), append-nil token.text, is) parts;
      kinds = All-push (λ (v : Meaning). IsToken v.text) tokens token so_far.kinds (rw is first.kind);
      longest = rw (map-append (λ (v : Meaning). v.text) tokens (token ∷ []), is) longest;
      places = All-push (λ (v : Meaning). v.place ≡ place_of v.text) tokens token so_far.places (rw is value.place);
    }

-- a source in which a token begins is not empty
not_empty : (a : List ℕ) (c : ℕ) (t : List ℕ) → ¬ (a ++ c ∷ t ≡ [])
not_empty [] c t none = omega (arith, ap length none)
not_empty (x ∷ a) c t none = omega (arith, ap length none)

pub Lexed-some : (source : List ℕ) (tokens : List Meaning) (text t left : List ℕ) → Lexed source tokens text
    → IsFirstToken text t left → source ≢ []
Lexed-some source tokens text [] left so_far first = absurd first.kind
Lexed-some source tokens text (c ∷ t) left so_far first =
    let front = flat_map (λ (v : Meaning). v.text) tokens in
    λ none. not_empty front c (t ++ left) (ap (λ l. front ++ l) (sym first.whole) ∙ so_far.lossless ∙ none)
