-- The text of lines of tokens, of numbers in columns, of names with dashes, and of key chords.
--     untabbed t            t with four spaces in place of each tab
--     line_text line        four spaces for each level, the tokens without tabs and with a space between each two, and a newline
--     right_aligned w n     the number n, with spaces in front of it up to w characters
--     dashed c              what is written for a character: two dashes for an underscore, else itself
--     chord_text ctrl shift key    the modifiers that are held, and the key
use Rattle.std.specs.Prelude.{ℕ, Bool, codes, chars, ◌*◌, ◌-◌, ◌^◌, ◌==◌, List, [], ◌∷◌, ◌++◌, replicate, if◌then◌else◌, flat_map}
use Rattle.std.specs.Fmt.{format_spec, styled_decimal}
use Rattle.smol_str.specs.Cut.{joined_by}
use Rattle.smol_str.specs.Meaning.{texts}
use Rattle.uses.specs.declared.layout.Line.{Line}

abbrev pub untabbed : List ℕ → List ℕ
untabbed t = flat_map (λ c. if c == 9 then replicate 4 32 else c ∷ []) t

abbrev pub margin : ℕ → List ℕ
margin level = replicate (4 * level) 32

abbrev pub line_text : Line → List ℕ
line_text line = margin line.level ++ (untabbed (joined_by (32 ∷ []) (texts line.tokens.items)) ++ (10 ∷ []))

-- with spaces as fill, and without a precision
abbrev pub right_aligned : ℕ → ℕ → List ℕ
right_aligned w n = styled_decimal (format_spec 32 3 0 w (2 ^ 64 - 1)) n

abbrev pub dashed : ℕ → List ℕ
dashed c = if c == 95 then 45 ∷ 45 ∷ [] else c ∷ []

abbrev pub chord_text : Bool → Bool → List ℕ → List ℕ
chord_text ctrl shift key =
    ((if ctrl then chars (codes "ctrl+") else []) ++ (if shift then chars (codes "shift+") else [])) ++ key
