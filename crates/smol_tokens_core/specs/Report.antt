-- What the program writes of a text, as characters.
--     place_word p       the word for a place
--     value_line t       the report line of a text
--     show_report t, join_report t, lower_report t, upper_report t, replace_report from to t, tokens_report t
--                        what is written of t in the mode of that name
--     IsReport mode t out    out is what the program writes of t in a mode
--     mapped_line mode l     a line after the mode's mapping
use Rattle.std.specs.Prelude.{◌≡◌, ℕ, List, ◌++◌, codes}
use Rattle.std.specs.List.{concat, flat_map}
use Rattle.std.specs.Fmt.{decimal}
use Rattle.std.specs.Str.{chars}
use Rattle.std.specs.String.{string_bytes}
use Rattle.smol_str.specs.Text.{size, place_of}
use Rattle.smol_str.specs.declared.value.place.Place.{Place}
use Rattle.smol_str.specs.declared.value.place.Place.TheVariants.{Inline, Static, Heap}
use Rattle.smol_str.specs.Case.{lower, upper}
use Rattle.smol_str.specs.Replace.{replaced_all}
use Rattle.smol_tokens_core.specs.Lines.{lines}
use Rattle.smol_tokens_core.specs.Tally.{tally, seen_once}
use Rattle.smol_tokens_core.specs.Counts.{count_line, IsMerge}
use Rattle.smol_tokens_core.specs.declared.mode.Mode.{Mode}
use Rattle.smol_tokens_core.specs.declared.mode.Mode.TheVariants.{Show, Join, Lower, Upper, Replace, Tokens, Merge}

-- the word for a place
abbrev pub place_word : Place → List ℕ
place_word Inline = codes "inline"
place_word Static = codes "static"
place_word Heap = codes "heap"

-- a place's word, a size in decimal and a text, with a space between each two, and a newline
abbrev pub report_line : Place → ℕ → List ℕ → List ℕ
report_line place n t = place_word place ++ (codes " " ++ (decimal n ++ (codes " " ++ (t ++ codes "\n"))))

-- the report line of a text: its place, its size in bytes, itself
abbrev pub value_line : List ℕ → List ℕ
value_line t = report_line (place_of t) (size t) t

-- the report line of each line
abbrev pub show_report : List ℕ → List ℕ
show_report t = flat_map value_line (lines t)

-- one report line: of all lines joined
abbrev pub join_report : List ℕ → List ℕ
join_report t = value_line (concat (lines t))

-- the report line of each line in small letters of ASCII
abbrev pub lower_report : List ℕ → List ℕ
lower_report t = flat_map (λ line. value_line (lower line)) (lines t)

-- the report line of each line in capital letters of ASCII
abbrev pub upper_report : List ℕ → List ℕ
upper_report t = flat_map (λ line. value_line (upper line)) (lines t)

-- the report line of each line, with `to` in place of each match of `from`
abbrev pub replace_report : List ℕ → List ℕ → List ℕ → List ℕ
replace_report from to t = flat_map (λ line. value_line (replaced_all line from to)) (lines t)

-- the count line of each different line, in order of first sight
abbrev pub tokens_report : List ℕ → List ℕ
tokens_report t = flat_map count_line (tally (seen_once (lines t)))

-- what is written in each mode; in mode merge, of count lines alone
abbrev pub IsReport : Mode → List ℕ → List ℕ → Type 0
IsReport Show t out = out ≡ show_report t
IsReport Join t out = out ≡ join_report t
IsReport Lower t out = out ≡ lower_report t
IsReport Upper t out = out ≡ upper_report t
IsReport (Replace from to) t out = out ≡ replace_report (chars (string_bytes from)) (chars (string_bytes to)) t
IsReport Tokens t out = out ≡ tokens_report t
IsReport Merge t out = IsMerge t out

-- a line after the mode's mapping; in the other modes a line stays as it is
abbrev pub mapped_line : Mode → List ℕ → List ℕ
mapped_line Lower line = lower line
mapped_line Upper line = upper line
mapped_line (Replace from to) line = replaced_all line (chars (string_bytes from)) (chars (string_bytes to))
mapped_line _ line = line
