-- Trees as tokens and texts.
--     tokens_of e                the token, or all tokens in a node, in their order
--     text_of e                  their texts, one after another
--     kind_of e, children_of e   what stands in an element itself
--     IsTokenAt t n token i      the token lies in the text t, and its byte i is the byte n of that
use Rattle.std.specs.Prelude.{◌≡◌, ◌<◌, ◌+◌, ℕ, List, [], ◌∷◌, ◌++◌, flat_map}
use Rattle.smol_str.specs.Meaning.{Meaning}
use Rattle.smol_str.specs.Text.{size}
use Rattle.syntax_tree.specs.declared.tree.SyntaxKind.{SyntaxKind}
use Rattle.syntax_tree.specs.declared.tree.Element.{Element}
use Rattle.syntax_tree.specs.declared.tree.Element.TheOpen.{Element-F, Node, Token}
use Rattle.syntax_tree.specs.declared.tree.Element.TheFolds.{fold-Element}

abbrev pub tokens_step : Element-F (List Meaning) → List Meaning
tokens_step (Node kind children) = flat_map (λ tokens. tokens) children.items
tokens_step (Token kind text) = text ∷ []

unfoldable pub tokens_of : Element → List Meaning
tokens_of = fold-Element (List Meaning) tokens_step

unfoldable pub text_of : Element → List ℕ
text_of e = flat_map (λ token. token.text) (tokens_of e)

abbrev pub kind_of : Element-F Element → SyntaxKind
kind_of (Node kind children) = kind
kind_of (Token kind text) = kind

abbrev pub children_of : Element-F Element → List Element
children_of (Node kind children) = children.items
children_of (Token kind text) = []

pub record IsTokenAt (t : List ℕ) (n : ℕ) (token : List ℕ) (i : ℕ) : Type 0 where
  pub before : List ℕ
  pub after : List ℕ
  pub parts : t ≡ before ++ (token ++ after)
  pub place : size before + i ≡ n
  pub within : i < size token
