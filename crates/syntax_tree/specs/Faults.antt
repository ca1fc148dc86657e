-- When each fault comes. A case ⊥ is a fault that does not come.
--     AfterStart, AfterFinishNode, AfterFinish   of a builder, by the call
--     IsTooDeep t, IsUnopenedAt t n, IsUnclosed t   a source whose lists nest too deep; with a bracket at byte n that closes
--                                                none; with a list that is not closed
--     AfterParseFault t                          of the parser
use Rattle.std.specs.Prelude.{◌≡◌, ◌≢◌, ◌<◌, ◌≤◌, ◌+◌, ℕ, List, ◌∷◌, ◌++◌, Some, ⊤, length}
use Rattle.smol_str.specs.Text.{size}
use Rattle.syntax_tree.specs.declared.builder.TheConstants.{MAX_DEPTH}
use Rattle.syntax_tree.specs.declared.builder.TreeFault.{TreeFault}
use Rattle.syntax_tree.specs.declared.builder.TreeFault.TheVariants.{OutOfMemory, TooDeep, NoneOpen, StillOpen, NotOneRoot}
use Rattle.syntax_tree.specs.declared.parser.ParseFault.{ParseFault}
use Rattle.syntax_tree.specs.declared.parser.ParseFault.TheVariants.{Tree, Unopened, Unclosed}
use Rattle.syntax_tree.specs.Brackets.{open_lists}
use Rattle.syntax_tree.specs.Building.{Building, depth}

abbrev pub AfterStart : Building → TreeFault → Type 0
AfterStart b OutOfMemory = ⊤
AfterStart b TooDeep = MAX_DEPTH ≤ depth b
AfterStart b NoneOpen = ⊥
AfterStart b StillOpen = ⊥
AfterStart b NotOneRoot = ⊥

abbrev pub AfterFinishNode : Building → TreeFault → Type 0
AfterFinishNode b OutOfMemory = ⊤
AfterFinishNode b TooDeep = ⊥
AfterFinishNode b NoneOpen = depth b ≡ 0
AfterFinishNode b StillOpen = ⊥
AfterFinishNode b NotOneRoot = ⊥

abbrev pub AfterFinish : Building → TreeFault → Type 0
AfterFinish b OutOfMemory = ⊥
AfterFinish b TooDeep = ⊥
AfterFinish b NoneOpen = ⊥
AfterFinish b StillOpen = 0 < depth b
AfterFinish b NotOneRoot = (depth b ≡ 0) × (length b.elements ≢ 1)

-- behind a beginning of the text as many lists are open as nodes may be, with the root
pub record IsTooDeep (t : List ℕ) : Type 0 where
  pub before : List ℕ
  pub after : List ℕ
  pub nested : ℕ
  pub parts : t ≡ before ++ after
  pub lists : open_lists before ≡ Some nested
  pub deep : MAX_DEPTH ≤ nested + 1

pub record IsUnopenedAt (t : List ℕ) (n : ℕ) : Type 0 where
  pub before : List ℕ
  pub after : List ℕ
  pub parts : t ≡ before ++ 41 ∷ after
  pub place : size before ≡ n
  pub balanced : open_lists before ≡ Some 0

pub record IsUnclosed (t : List ℕ) : Type 0 where
  pub others : ℕ
  pub lists : open_lists t ≡ Some (others + 1)

abbrev pub AfterParseFault : List ℕ → ParseFault → Type 0
AfterParseFault t (Tree OutOfMemory) = ⊤
AfterParseFault t (Tree TooDeep) = IsTooDeep t
AfterParseFault t (Tree NoneOpen) = ⊥
AfterParseFault t (Tree StillOpen) = ⊥
AfterParseFault t (Tree NotOneRoot) = ⊥
AfterParseFault t (Unopened n) = IsUnopenedAt t n
AfterParseFault t (Unclosed n) = IsUnclosed t
