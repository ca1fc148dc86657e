-- Which tokens open and close lists.
use Rattle.std.proofs.Common.{◌≡◌, ◌≢◌, ◌∙◌, ℕ, ◌+◌, ◌-◌, ◌<◌, ◌≤◌, ◌^◌, false, List, [], ◌∷◌, ◌++◌, Some, length, min, take, get_or, refl, ap, sym, arith, append_assoc}
use Rattle.std.specs.List.{All, fold}
use Rattle.std.specs.Str.{chars, IsUtf8}
use Rattle.std.specs.Char.Unicode.Alphabetic.{is_alphabetic, alphabetic_ranges}
use Rattle.std.specs.Char.Unicode.Numeric.{is_numeric, numeric_ranges}
use Rattle.std.specs.Char.Unicode.Rows.{in_ranges}
use Rattle.std.proofs.lemmas.Bool.Decides.{nat_tests}
use Rattle.std.proofs.lemmas.Grind.{common_steps}
use Rattle.std.proofs.lemmas.List.{nil_from_length}
use Rattle.std.proofs.lemmas.List.Elements.{All-head, All-tail}
use Rattle.std.proofs.lemmas.List.Sums.{fold-append}
use Rattle.std.proofs.lemmas.Str.{chars-nil}
use Rattle.smol_str.specs.Text.{size}
use Rattle.smol_str.proofs.CallerLemmas.{size-append, size-chars}
use Rattle.smol_str.proofs.CallerLemmas.Texts.{chars-cons}
use Rattle.lexer.specs.Tokens.{IsToken, goes_on}
use Rattle.lexer.proofs.CallerLemmas.{lacks}
use Rattle.syntax_tree.specs.Brackets.{after_character, open_lists}
use Rattle.syntax_tree.specs.declared.builder.TreeFault.{TreeFault}
use Rattle.syntax_tree.specs.declared.builder.TreeFault.TheVariants.{OutOfMemory, TooDeep, NoneOpen, StillOpen, NotOneRoot}
use Rattle.syntax_tree.specs.declared.builder.TheConstants.{MAX_DEPTH}
use Rattle.syntax_tree.specs.declared.parser.ParseFault.TheVariants.{Tree}
use Rattle.syntax_tree.specs.declared.tree.SyntaxKind.{SyntaxKind}
use Rattle.syntax_tree.specs.declared.tree.Element.{Element}
use Rattle.syntax_tree.specs.declared.tree.Element.TheVariants.{Node}
use Rattle.syntax_tree.specs.Building.{Building, depth, with_element, with_start, HasRoot, IsFinished}
use Rattle.syntax_tree.specs.Faults.{AfterFinish, AfterParseFault, IsTooDeep, IsUnopenedAt, IsUnclosed}

ends_at_40 : goes_on 40 40 ≡ false
unfolding is_alphabetic alphabetic_ranges is_numeric numeric_ranges in_ranges
ends_at_40 = refl

ends_at_41 : goes_on 41 41 ≡ false
unfolding is_alphabetic alphabetic_ranges is_numeric numeric_ranges in_ranges
ends_at_41 = refl

same_lists : (n : ℕ) (t : List ℕ) → All (λ c. c ≢ 40) t → All (λ c. c ≢ 41) t → fold after_character (Some n) t ≡ Some n
same_lists n [] p q = refl
same_lists n (c ∷ t) p q =
    let a : c ≢ 40 = All-head (λ c. c ≢ 40) c t p in
    let b : c ≢ 41 = All-head (λ c. c ≢ 41) c t q in
    let one : after_character (Some n) c ≡ Some n = grind (arith, nat_tests) in
    ap (λ o. fold after_character o t) one ∙ same_lists n t (All-tail (λ c. c ≢ 40) c t p) (All-tail (λ c. c ≢ 41) c t q)

chars-one : (c : ℕ) → c < 128 → chars (c ∷ []) ≡ c ∷ []
chars-one c ascii = chars-cons c [] ascii ∙ ap (λ t. c ∷ t) chars-nil

module _ (t : List ℕ) (n : ℕ) (so_far : open_lists t ≡ Some n) where
  behind : (u : List ℕ) → open_lists (t ++ u) ≡ fold after_character (Some n) u
  unfolding open_lists
  behind u = fold-append after_character (Some 0) t u ∙ ap (λ o. fold after_character o u) so_far

  -- a token that is no bracket
  pub plain : (u : List ℕ) → IsToken u → ¬ (u ≡ chars (40 ∷ [])) → ¬ (u ≡ chars (41 ∷ [])) → open_lists (t ++ u) ≡ Some n
  plain u token a b =
      let others = lacks 40 ends_at_40 u token (λ e. a (e ∙ sym (chars-one 40 (omega arith)))) in
      let others_too = lacks 41 ends_at_41 u token (λ e. b (e ∙ sym (chars-one 41 (omega arith)))) in
      behind u ∙ same_lists n u others others_too

  pub opening : (u : List ℕ) → u ≡ chars (40 ∷ []) → open_lists (t ++ u) ≡ Some (n + 1)
  opening u is = behind u ∙ ap (fold after_character (Some n)) (is ∙ chars-one 40 (omega arith))

  pub closing : (u : List ℕ) → u ≡ chars (41 ∷ []) → 0 < n → open_lists (t ++ u) ≡ Some (n - 1)
  closing u is some =
      let last : fold after_character (Some n) (41 ∷ []) ≡ Some (n - 1) = grind (arith, nat_tests) in
      behind u ∙ ap (fold after_character (Some n)) (is ∙ chars-one 41 (omega arith)) ∙ last

pub fits : (bs t rest : List ℕ) → IsUtf8 bs → length bs < 2 ^ 64 → t ++ rest ≡ chars bs → size t < 2 ^ 64
fits bs t rest u short parts = omega (arith, size-append t rest, ap size parts, size-chars bs u)

pub too_deep : (t rest : List ℕ) (n : ℕ) → open_lists t ≡ Some n → MAX_DEPTH ≤ n + 1 → IsTooDeep (t ++ rest)
too_deep t rest n lists deep = record { before = t; after = rest; nested = n; parts = refl; lists = lists; deep = deep }

pub unopened : (t u rest : List ℕ) (d n : ℕ) → open_lists t ≡ Some (d - 1) → d < 2 → size t < 2 ^ 64
    → n ≡ min (size t) (2 ^ 64 - 1) → u ≡ chars (41 ∷ []) → IsUnopenedAt (t ++ (u ++ rest)) n
unopened t u rest d n lists one fits place is = record {
  before = t;
  after = rest;
  parts = ap (λ v. t ++ (v ++ rest)) (is ∙ chars-one 41 (omega arith));
  place = omega (arith, place, fits);
  balanced = lists ∙ ap Some (omega arith);
}

pub unclosed : (t : List ℕ) (d : ℕ) → open_lists t ≡ Some (d - 1) → 1 < d → IsUnclosed t
unclosed t d lists more = record { others = d - 2; lists = lists ∙ ap Some (omega arith) }

pub none_open : open_lists [] ≡ Some 0
unfolding open_lists
none_open = refl

-- ---- the root: it begins with the text, so it is all there is once it is closed

module _ (b c : Building) where
  pub root_begun : (k : SyntaxKind) → b ≡ record { elements = []; starts = [] } → c ≡ with_start b k → HasRoot c
  root_begun k nothing is = record {
    kind = k;
    more = [];
    starts = ap (λ (d : Building). d.starts) is ∙ ap (λ (d : Building). d.starts ++ (k, length d.elements) ∷ []) nothing;
  }

  pub root_started : (k : SyntaxKind) → HasRoot b → c ≡ with_start b k → HasRoot c
  root_started k root is = record {
    kind = root.kind;
    more = root.more ++ (k, length b.elements) ∷ [];
    starts = ap (λ (d : Building). d.starts) is ∙ ap (λ s. s ++ (k, length b.elements) ∷ []) root.starts;
  }

  pub root_added : (e : Element) → HasRoot b → c ≡ with_element b e → HasRoot c
  root_added e root is =
      record { kind = root.kind; more = root.more; starts = ap (λ (d : Building). d.starts) is ∙ root.starts }

  front : {X : Type 0} (xs : List X) (x y : X) (more : List X) → xs ++ x ∷ [] ≡ y ∷ more → 0 < length xs
      → (m : List X) × (xs ≡ y ∷ m)
  front [] x y more e some = absurd (omega (arith, some))
  front (z ∷ xs) x y more e some = (xs, ap (λ l. get_or l 0 z ∷ xs) e)

  pub root_finished : HasRoot b → IsFinished b c → 0 < depth c → HasRoot c
  root_finished root done some =
      let rest = front c.starts (done.kind, done.first) (root.kind, 0) root.more (sym done.starts ∙ root.starts) some in
      record { kind = root.kind; more = rest.0; starts = rest.1 }

  pub one_root : HasRoot b → IsFinished b c → depth c ≡ 0 → length c.elements ≡ 1
  one_root root done none =
      let last = ap (λ s. s ++ (done.kind, done.first) ∷ []) (sym (nil_from_length c.starts none)) in
      let same = last ∙ sym done.starts ∙ root.starts in
      let begins : done.first ≡ 0 = ap (λ (l : List (SyntaxKind × ℕ)). (get_or {A = SyntaxKind × ℕ} l 0 (root.kind, 0)).1) same in
      let alone : length (take 0 b.elements ++ Node done.kind done.children ∷ []) ≡ 1 = grind (arith, common_steps) in
      ap length (done.elements ∙ ap (λ n. take n b.elements ++ Node done.kind done.children ∷ []) begins) ∙ alone

pub no_fault : (t : List ℕ) (b : Building) (f : TreeFault) → AfterFinish b f → depth b ≡ 0 → length b.elements ≡ 1
    → AfterParseFault t (Tree f)
no_fault t b OutOfMemory after closed one = absurd after
no_fault t b TooDeep after closed one = absurd after
no_fault t b NoneOpen after closed one = absurd after
no_fault t b StillOpen after closed one = omega (arith, after, closed)
no_fault t b NotOneRoot after closed one = absurd (after.1 one)

pub ruleset brackets = (plain, opening, closing, none_open, fits, too_deep, unopened, unclosed, root_begun, root_started, root_added, root_finished, append_assoc)
