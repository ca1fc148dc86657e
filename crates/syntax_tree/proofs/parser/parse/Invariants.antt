use Rattle.std.proofs.Common.{◌≡◌, ◌<◌, ◌-◌, ◌++◌, Some, flat_map}
use Rattle.std.specs.Str.{chars}
use Rattle.syntax_tree.specs.Brackets.{open_lists}
use Rattle.syntax_tree.specs.Building.{text_so_far, depth, HasRoot}
use Rattle.syntax_tree.proofs.parser.parse.Given as goal

abbrev pub invariant-loop-token : goal.invariant-loop-token
invariant-loop-token l =
    (text_so_far l.builder ++ flat_map (λ token. token.text) l.token-iterator.rest.items ≡ chars l.source) × (0 < depth l.builder)
    × (open_lists (text_so_far l.builder) ≡ Some (depth l.builder - 1)) × HasRoot l.builder
