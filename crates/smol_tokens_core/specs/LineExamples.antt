-- The lines of small texts, computed by the checker.
use Rattle.std.specs.Prelude.{◌≡◌, [], ◌∷◌, codes, refl}
use Rattle.smol_tokens_core.specs.Lines.{lines}

lines_of_nothing : lines (codes "") ≡ []
unfolding lines
lines_of_nothing = refl

line_without_newline : lines (codes "a") ≡ codes "a" ∷ []
unfolding lines
line_without_newline = refl

empty_last_line : lines (codes "a\n\n") ≡ codes "a" ∷ [] ∷ []
unfolding lines
empty_last_line = refl

carriage_return : lines (codes "a\r\nb") ≡ codes "a\r" ∷ codes "b" ∷ []
unfolding lines
carriage_return = refl
