-- What a builder means.
--     Building                   the elements so far, and of each open node its kind and how many elements stand before it
--     text_so_far b, depth b     the text of these elements, and how many nodes are open
--     with_element b e, with_start b kind, IsFinished b c   one element more, a node opened, the last one closed
--     HasRoot b                  the node that was opened first begins where the text does
use Rattle.std.specs.Prelude.{◌≡◌, ℕ, List, [], ◌∷◌, ◌++◌, flat_map, length, take, drop}
use Rattle.std.specs.Global.{Vec}
use Rattle.syntax_tree.specs.declared.tree.SyntaxKind.{SyntaxKind}
use Rattle.syntax_tree.specs.declared.tree.Element.{Element}
use Rattle.syntax_tree.specs.declared.tree.Element.TheVariants.{Node}
use Rattle.syntax_tree.specs.Trees.{text_of}

pub record Building : Type 0 where
  pub elements : List Element
  pub starts : List (SyntaxKind × ℕ)

abbrev pub text_so_far : Building → List ℕ
text_so_far b = flat_map text_of b.elements

abbrev pub depth : Building → ℕ
depth b = length b.starts

abbrev pub with_element : Building → Element → Building
with_element b e = record { elements = b.elements ++ e ∷ []; starts = b.starts }

abbrev pub with_start : Building → SyntaxKind → Building
with_start b kind = record { elements = b.elements; starts = b.starts ++ (kind, length b.elements) ∷ [] }

-- the node that was opened last has the elements behind its start
pub record IsFinished (b c : Building) : Type 0 where
  pub kind : SyntaxKind
  pub first : ℕ
  pub children : Vec Element
  pub starts : b.starts ≡ c.starts ++ (kind, first) ∷ []
  pub items : children.items ≡ drop first b.elements
  pub elements : c.elements ≡ take first b.elements ++ Node kind children ∷ []

pub record HasRoot (b : Building) : Type 0 where
  pub kind : SyntaxKind
  pub more : List (SyntaxKind × ℕ)
  pub starts : b.starts ≡ (kind, 0) ∷ more
