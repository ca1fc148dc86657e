use Rattle.std.proofs.Common.{◌≡◌, ◌++◌, take, map, flat_map}
use Rattle.syntax_tree.specs.Trees.{tokens_of}
use Rattle.syntax_tree.proofs.tree.+tokens.Given as goal

abbrev pub invariant-push_all_tokens-loop-child : goal.invariant-push_all_tokens-loop-child
invariant-push_all_tokens-loop-child l =
    map (λ token. token.now) l.out.items
    ≡ map (λ token. token.now) l.initial.out.items ++ flat_map tokens_of (take l.child-index l.children)
