-- Lists in round brackets.
--     after_character o c      how many lists are open behind the character c; None where it closes none
--     open_lists t             the same behind a text
--     IsBalanced t             each bracket of the text has its other one
use Rattle.std.specs.Prelude.{◌≡◌, ℕ, ◌+◌, ◌-◌, ◌==◌, List, Option, Some, None, if◌then◌else◌}
use Rattle.std.specs.List.{fold}

abbrev pub after_character : Option ℕ → ℕ → Option ℕ
after_character None c = None
after_character (Some n) c = if c == 40 then Some (n + 1) else if c == 41 then (if n == 0 then None else Some (n - 1)) else Some n

unfoldable pub open_lists : List ℕ → Option ℕ
open_lists t = fold after_character (Some 0) t

abbrev pub IsBalanced : List ℕ → Type 0
IsBalanced t = open_lists t ≡ Some 0
