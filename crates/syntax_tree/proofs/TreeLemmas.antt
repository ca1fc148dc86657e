-- The tokens and the text of a node are those of its children, one after another.
use Rattle.std.proofs.Common.{◌≡◌, ◌∙◌, ℕ, ◌+◌, ◌<◌, List, [], ◌∷◌, ◌++◌, map, flat_map, refl, ap, sym, take, take_all, drop, append-nil, append_assoc, length, min, get_or, arith, rules}
use Rattle.std.proofs.lemmas.Grind.{flat_map-append, common_steps}
use Rattle.std.proofs.lemmas.List.{map-append, take-append-drop, take_more}
use Rattle.std.specs.Global.{Vec}
use Rattle.smol_str.specs.Text.{size}
use Rattle.smol_str.specs.Meaning.{Meaning}
use Rattle.smol_str.proofs.CallerLemmas.{size-append}
use Rattle.smol_str.proofs.CallerLemmas.Builders.{pieces-front}
use Rattle.smol_str.proofs.CallerLemmas.Loops.{flat_map-push}
use Rattle.syntax_tree.specs.declared.tree.SyntaxKind.{SyntaxKind}
use Rattle.syntax_tree.specs.declared.tree.Element.{Element}
use Rattle.syntax_tree.specs.declared.tree.Element.TheVariants.{Node, Token, rolls-Node, rolls-Token}
use Rattle.syntax_tree.specs.declared.tree.Element.TheOpen as layer
use Rattle.syntax_tree.specs.declared.tree.Element.TheFolds.{fold-roll-Element}
use Rattle.syntax_tree.specs.Trees.{text_of, tokens_of, tokens_step, IsTokenAt}
use Rattle.syntax_tree.specs.Building.{Building, IsFinished}

joined : (es : List Element) → flat_map (λ (ts : List Meaning). ts) (map tokens_of es) ≡ flat_map tokens_of es
joined [] = refl
joined (e ∷ es) = ap (λ ts. tokens_of e ++ ts) (joined es)

pub tokens_of_node : (k : SyntaxKind) (es : Vec Element) → tokens_of (Node k es) ≡ flat_map tokens_of es.items
unfolding tokens_of
tokens_of_node k es =
    ap tokens_of (sym (rolls-Node k es)) ∙ fold-roll-Element (List Meaning) tokens_step (layer.Node k es) ∙ joined es.items

pub tokens_of_token : (k : SyntaxKind) (v : Meaning) → tokens_of (Token k v) ≡ v ∷ []
unfolding tokens_of
tokens_of_token k v = ap tokens_of (sym (rolls-Token k v)) ∙ fold-roll-Element (List Meaning) tokens_step (layer.Token k v)

text_of_all : (es : List Element) → flat_map (λ (v : Meaning). v.text) (flat_map tokens_of es) ≡ flat_map text_of es
unfolding text_of
text_of_all [] = refl
text_of_all (e ∷ es) =
    flat_map-append (λ (v : Meaning). v.text) (tokens_of e) (flat_map tokens_of es) ∙ ap (λ t. text_of e ++ t) (text_of_all es)

pub text_of_node : (k : SyntaxKind) (es : Vec Element) → text_of (Node k es) ≡ flat_map text_of es.items
unfolding text_of
text_of_node k es = ap (flat_map (λ (v : Meaning). v.text)) (tokens_of_node k es) ∙ text_of_all es.items

pub text_of_token : (k : SyntaxKind) (v : Meaning) → text_of (Token k v) ≡ v.text
unfolding text_of
text_of_token k v = ap (flat_map (λ (v : Meaning). v.text)) (tokens_of_token k v) ∙ append-nil v.text

-- ---- the builder: elements that are put into a node keep their text

pub text_folded : (k : SyntaxKind) (es : List Element) (n : ℕ) (v : Vec Element) → v.items ≡ drop n es
    → flat_map text_of (take n es ++ Node k v ∷ []) ≡ flat_map text_of es
text_folded k es n v is =
    flat_map-push text_of (take n es) (Node k v)
    ∙ ap (λ t. flat_map text_of (take n es) ++ t) (text_of_node k v ∙ ap (flat_map text_of) is)
    ∙ sym (flat_map-append text_of (take n es) (drop n es)) ∙ ap (flat_map text_of) (take-append-drop n es)

take_min : (es : List Element) (n : ℕ) → take (min n (length es)) es ≡ take n es
take_min es n = grind (arith, common_steps)

drop_min : (es : List Element) (n : ℕ) → drop (min n (length es)) es ≡ drop n es
drop_min es n = grind (arith, common_steps)

pub finished : (b c : Building) (k : SyntaxKind) (n : ℕ) (v : Vec Element) → b.starts ≡ c.starts ++ (k, n) ∷ []
    → v.items ≡ drop (min n (length b.elements)) b.elements
    → c.elements ≡ take (min n (length b.elements)) b.elements ++ Node k v ∷ [] → IsFinished b c
finished b c k n v starts items elements = record {
  kind = k;
  first = n;
  children = v;
  starts = starts;
  items = items ∙ drop_min b.elements n;
  elements = elements ∙ ap (λ es. es ++ Node k v ∷ []) (take_min b.elements n);
}

-- ---- a token at an offset

more_at : {X : Type 0} (xs : List X) (i : ℕ) (x : X) → i < length xs → x ≡ get_or xs i x → take (i + 1) xs ≡ take i xs ++ x ∷ []
more_at xs i x within is = take_more xs i x within ∙ (λ j. take i xs ++ (sym is j) ∷ [])

pub at_token : (t token : List ℕ) (n : ℕ) → t ≡ token → n < size token → IsTokenAt t n token n
at_token t token n is within =
    record { before = []; after = []; parts = is ∙ sym (append-nil token); place = omega arith; within = within }

-- of one of some children, behind those before it
pub at_child : (es : List Element) (i : ℕ) (e : Element) (n left : ℕ) (token : List ℕ) (k : ℕ) → i < length es → e ≡ get_or es i e
    → size (flat_map text_of (take i es)) + left ≡ n → IsTokenAt (text_of e) left token k → IsTokenAt (flat_map text_of es) n token k
at_child es i e n left token k within is so_far at =
    let front = flat_map text_of (take i es) in
    let rest = flat_map text_of (drop (i + 1) es) in
    let more = ap (flat_map text_of) (more_at es i e within is) ∙ flat_map-push text_of (take i es) e in
    record {
      before = front ++ at.before;
      after = at.after ++ rest;
      parts = (pieces-front text_of es i).1 ∙ rw (more, at.parts) (search (rules, append_assoc));
      place = omega (arith, size-append front at.before, so_far, at.place);
      within = at.within;
    }

-- the pieces so far, and one more
pub size_more : {X : Type 0} (f : X → List ℕ) (xs : List X) (i : ℕ) (x : X) → i < length xs → x ≡ get_or xs i x
    → size (flat_map f (take (i + 1) xs)) ≡ size (flat_map f (take i xs)) + size (f x)
size_more f xs i x within is =
    ap (λ ys. size (flat_map f ys)) (more_at xs i x within is) ∙ ap size (flat_map-push f (take i xs) x)
    ∙ size-append (flat_map f (take i xs)) (f x)

pub ruleset nodes = (tokens_of_node, tokens_of_token, text_of_node, text_of_token, text_folded, finished, at_token, at_child, size_more, flat_map-push, map-append, take_all)
