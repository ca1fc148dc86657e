use Rattle.std.proofs.Common.{◌≡◌, ◌+◌, ◌==◌, ℕ, List, None, Some, length, map, if◌then◌else◌, filter_map, chars}
use Rattle.uses_cutting.proofs.numbered_lines.Given as goal

abbrev pub invariant-loop-number : goal.invariant-loop-number
invariant-loop-number l = map {B = ℕ × List ℕ} (λ row. (row.0, row.1.text)) l.rows.items
    ≡ filter_map {Y = ℕ × List ℕ} (λ line. if length line.1 == 0 then None else Some (line.0 + 1, chars line.1))
    (map {B = ℕ × List ℕ} (λ x. (x.0, x.1.now)) l.yielded)
