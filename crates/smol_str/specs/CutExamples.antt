-- Cuts and replacements of small texts, computed by the checker. 233 is é, 169 is ©.
use Rattle.std.specs.Prelude.{◌≡◌, [], ◌∷◌, ◌++◌, codes, refl}
use Rattle.smol_str.specs.Replace.{cut, no_limit, match_count, replaced, replaced_all}

-- from the left, and without overlap
overlapping : cut (codes "aaa") (codes "aa") (no_limit (codes "aaa")) ≡ [] ∷ codes "a" ∷ []
overlapping = refl

-- the search goes on behind a match
behind_a_match : cut (codes "aaaa") (codes "aa") (no_limit (codes "aaaa")) ≡ [] ∷ [] ∷ [] ∷ []
behind_a_match = refl

side_by_side : cut (codes "banana") (codes "an") (no_limit (codes "banana")) ≡ codes "b" ∷ [] ∷ codes "a" ∷ []
side_by_side = refl

limited : cut (codes "banana") (codes "an") 1 ≡ codes "b" ∷ codes "ana" ∷ []
limited = refl

not_at_all : cut (codes "banana") (codes "an") 0 ≡ codes "banana" ∷ []
not_at_all = refl

unmatched : cut (codes "abc") (codes "x") 9 ≡ codes "abc" ∷ []
unmatched = refl

nothing_to_cut : cut [] (codes "x") 9 ≡ [] ∷ []
nothing_to_cut = refl

-- the empty pattern: before each character, and at the end
between : cut (codes "abc") [] (no_limit (codes "abc")) ≡ [] ∷ codes "a" ∷ codes "b" ∷ codes "c" ∷ [] ∷ []
between = refl

between_limited : cut (codes "abc") [] 2 ≡ [] ∷ codes "a" ∷ codes "bc" ∷ []
between_limited = refl

between_beyond : cut (codes "abc") [] 9 ≡ [] ∷ codes "a" ∷ codes "b" ∷ codes "c" ∷ [] ∷ []
between_beyond = refl

-- é has two bytes, and nothing is cut between them
between_two_bytes : cut (233 ∷ []) [] (no_limit (233 ∷ [])) ≡ [] ∷ (233 ∷ []) ∷ [] ∷ []
between_two_bytes = refl

between_nothing : cut [] [] (no_limit []) ≡ [] ∷ [] ∷ []
between_nothing = refl

count : match_count (codes "banana") (codes "an") ≡ 2
count = refl

count_between : match_count (codes "abc") [] ≡ 4
count_between = refl

replaced_overlapping : replaced_all (codes "aaa") (codes "aa") (codes "b") ≡ codes "ba"
replaced_overlapping = refl

replaced_two_bytes : replaced_all (233 ∷ 233 ∷ 233 ∷ []) (233 ∷ 233 ∷ []) (codes "b") ≡ codes "b" ++ 233 ∷ []
replaced_two_bytes = refl

-- é and © end in the same byte
replaced_same_byte : replaced_all (233 ∷ []) (169 ∷ []) (codes "x") ≡ 233 ∷ []
replaced_same_byte = refl

removed : replaced_all (codes "banana") (codes "an") [] ≡ codes "ba"
removed = refl

replaced_each : replaced_all (codes "foo_bar_baz") (codes "ba") (codes "do") ≡ codes "foo_dor_doz"
replaced_each = refl

replaced_once : replaced (codes "foo_bar_baz") (codes "ba") (codes "do") 1 ≡ codes "foo_dor_baz"
replaced_once = refl

replaced_one_byte : replaced (codes "foo_bar_baz") (codes "o") (codes "u") 1 ≡ codes "fuo_bar_baz"
replaced_one_byte = refl

replaced_never : replaced (codes "foo_bar_baz") (codes "o") (codes "u") 0 ≡ codes "foo_bar_baz"
replaced_never = refl

inserted_twice : replaced (codes "abc") [] (codes "-") 2 ≡ codes "-a-bc"
inserted_twice = refl

inserted : replaced_all (codes "abc") [] (codes "-") ≡ codes "-a-b-c-"
inserted = refl

inserted_two_bytes : replaced_all (233 ∷ []) [] (codes "-") ≡ codes "-" ++ 233 ∷ codes "-"
inserted_two_bytes = refl

inserted_into_nothing : replaced_all [] [] (codes "x") ≡ codes "x"
inserted_into_nothing = refl
