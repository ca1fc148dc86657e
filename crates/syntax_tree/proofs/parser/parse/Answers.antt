use Rattle.std.proofs.Common.{◌≡◌, ◌<◌, ◌-◌, ◌++◌, Some, rules, arith, chars, flat_map, append_assoc, append-nil, subst}
use Rattle.std.proofs.lemmas.Grind.{common_steps}
use Rattle.std.proofs.lemmas.List.{nil_from_length}
use Rattle.smol_str.proofs.CallerLemmas.{IfErr-is}
use Rattle.syntax_tree.specs.Brackets.{open_lists}
use Rattle.syntax_tree.specs.Building.{text_so_far, depth}
use Rattle.syntax_tree.specs.Faults.{AfterParseFault}
use Rattle.syntax_tree.proofs.BracketLemmas.{no_fault, one_root, unclosed}
use Rattle.syntax_tree.proofs.parser.parse.Goals as goal

pub returns-in_err-add-clause-fault : goal.returns-in_err-add-clause-fault
returns-in_err-add-clause-fault c =
    let rest = flat_map (λ token. token.text) c.next.new.self.rest.items in
    let whole : text_so_far c.loop-token.builder ++ (c.in-Some.token.text ++ rest) ≡ chars c.args.source.now =
    search (rules, append_assoc) in
    let fault = subst (λ t. AfterParseFault t c.in_err-add.field-0.0) whole (c.in_err-add.ensures.fault rest) in
    IfErr-is _ _ _ c.from_residual-in_err-add.ensures.1 fault

pub returns-then-depth-gt1-clause-fault : goal.returns-then-depth-gt1-clause-fault
returns-then-depth-gt1-clause-fault c =
    let builder = c.loop-token.builder in
    let whole : text_so_far builder ≡ chars c.args.source.now = grind (arith, common_steps, append-nil, nil_from_length) in
    let more : 1 < depth builder = search (rules, arith) in
    unclosed _ _ (subst (λ t. open_lists t ≡ Some (depth builder - 1)) whole c.loop-token.invariant.2) more

pub returns-in_err-finish-clause-fault : goal.returns-in_err-finish-clause-fault
returns-in_err-finish-clause-fault c =
    let closed : depth c.finish_node.new.self ≡ 0 = search (rules, arith) in
    let one = one_root _ _ c.loop-token.invariant.3 c.in_ok-finish_node.ensures.node closed in
    IfErr-is _ _ _ c.from_residual-in_err-finish.ensures.1 (no_fault _ _ _ c.in_err-finish.ensures.fault closed one)
