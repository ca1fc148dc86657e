use Rattle.syntax_tree.proofs.BracketLemmas.{root_added, root_started}
use Rattle.syntax_tree.proofs.parser.add.Goals as goal

pub returns-in_ok-token-clause-root : goal.returns-in_ok-token-clause-root
returns-in_ok-token-clause-root c =
    root_added _ _ _ (root_started _ _ _ c.requires.root c.in_ok-start_node.ensures.node) c.in_ok-token.ensures.element
