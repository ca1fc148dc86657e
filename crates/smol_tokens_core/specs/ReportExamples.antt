-- What the program writes of small texts, computed by the checker.
use Rattle.std.specs.Prelude.{◌≡◌, ℕ, ◌+◌, List, [], ◌++◌, replicate, codes, if◌then◌else◌, nat_le, refl}
use Rattle.std.specs.Fmt.{decimal, digits}
use Rattle.std.specs.Str.{chars}
use Rattle.std.specs.String.{string_bytes}
use Rattle.std.specs.declared.string.String.{String}
use Rattle.std.specs.declared.alloc.Global.{Global}
use Rattle.std.specs.declared.io.Error.{Error}
use Rattle.smol_str.specs.declared.buffer.TheConstants.{INLINE_CAP}
use Rattle.smol_str.specs.declared.value.blank.TheConstants.{BLANK_SPACES}
use Rattle.smol_str.specs.Text.{place_of, is_blank_run}
use Rattle.smol_tokens_core.specs.Lines.{lines}
use Rattle.smol_tokens_core.specs.Report.{value_line, show_report, join_report, lower_report, upper_report, replace_report}
use Rattle.smol_tokens_core.specs.Report.{tokens_report, IsReport}
use Rattle.smol_tokens_core.specs.ReportFaults.{HasNoReport}
use Rattle.smol_tokens_core.specs.declared.mode.Mode.{Mode}
use Rattle.smol_tokens_core.specs.declared.mode.Mode.TheVariants.{Show, Join, Lower, Upper, Replace, Tokens}
use Rattle.smol_tokens_core.specs.declared.fault.RunFault.TheVariants.{NotUtf8, Io}

-- a character so often that it is a byte too long for the buffer of a value
abbrev too_many : ℕ → List ℕ
too_many c = replicate (INLINE_CAP + 1) c

-- where so many spaces are, which the buffer has no room for
abbrev place_of_spaces : List ℕ
place_of_spaces = if nat_le (INLINE_CAP + 1) BLANK_SPACES then codes "static " else codes "heap "

value_line_of_empty : value_line [] ≡ codes "inline 0 \n"
unfolding place_of is_blank_run digits lib.Utf8.encode
value_line_of_empty = refl

-- a line that fits the buffer, an empty one, and one that is too long
report_of_lines : show_report (codes "if\n\n" ++ too_many 97)
    ≡ codes "inline 2 if\ninline 0 \nheap " ++ (decimal (INLINE_CAP + 1) ++ (codes " " ++ (too_many 97 ++ codes "\n")))
unfolding lines place_of is_blank_run digits lib.Utf8.encode
report_of_lines = refl

-- the size counts bytes
report_past_ascii : show_report (codes "é🦀") ≡ codes "inline 6 é🦀\n"
unfolding lines place_of is_blank_run digits lib.Utf8.encode
report_past_ascii = refl

-- too long for the buffer, and blank
report_of_spaces : show_report (too_many 32)
    ≡ place_of_spaces ++ (decimal (INLINE_CAP + 1) ++ (codes " " ++ (too_many 32 ++ codes "\n")))
unfolding lines place_of is_blank_run digits lib.Utf8.encode
report_of_spaces = refl

report_of_nothing : show_report [] ≡ []
unfolding lines
report_of_nothing = refl

joined_lines : join_report (codes "if\n\nab") ≡ codes "inline 4 ifab\n"
unfolding lines place_of is_blank_run digits lib.Utf8.encode
joined_lines = refl

joined_too_long : join_report (codes "if\n" ++ too_many 97)
    ≡ codes "heap " ++ (decimal (INLINE_CAP + 3) ++ (codes " if" ++ (too_many 97 ++ codes "\n")))
unfolding lines place_of is_blank_run digits lib.Utf8.encode
joined_too_long = refl

-- no line at all is joined to the empty text
joined_nothing : join_report [] ≡ codes "inline 0 \n"
unfolding lines place_of is_blank_run digits lib.Utf8.encode
joined_nothing = refl

-- a carriage return is a character of its line
lower_lines : lower_report (codes "Ab\r\nC") ≡ codes "inline 3 ab\r\ninline 1 c\n"
unfolding lines place_of is_blank_run digits lib.Utf8.encode
lower_lines = refl

-- a letter past ASCII has no other case here, and two bytes
lower_past_ascii : lower_report (codes "Aß") ≡ codes "inline 3 aß\n"
unfolding lines place_of is_blank_run digits lib.Utf8.encode
lower_past_ascii = refl

upper_lines : upper_report (codes "Ab\nc") ≡ codes "inline 2 AB\ninline 1 C\n"
unfolding lines place_of is_blank_run digits lib.Utf8.encode
upper_lines = refl

upper_past_ascii : upper_report (codes "aß") ≡ codes "inline 3 Aß\n"
unfolding lines place_of is_blank_run digits lib.Utf8.encode
upper_past_ascii = refl

replaced_lines : replace_report (codes "ba") (codes "do") (codes "foo_bar_baz\nba")
    ≡ codes "inline 11 foo_dor_doz\ninline 2 do\n"
unfolding lines place_of is_blank_run digits lib.Utf8.encode
replaced_lines = refl

-- the place is that of what is written, and not of the line
replaced_by_spaces : replace_report (codes "x") (codes " ") (too_many 120)
    ≡ place_of_spaces ++ (decimal (INLINE_CAP + 1) ++ (codes " " ++ (too_many 32 ++ codes "\n")))
unfolding lines place_of is_blank_run digits lib.Utf8.encode
replaced_by_spaces = refl

-- no line has a newline, so a pattern with one has no match
replaced_newline : replace_report (codes "a\nb") (codes "-") (codes "a\nb") ≡ codes "inline 1 a\ninline 1 b\n"
unfolding lines place_of is_blank_run digits lib.Utf8.encode
replaced_newline = refl

-- the empty text matches before each character and at the end of a line, and in an empty line once
replaced_nothing : replace_report [] (codes "-") (codes "ab\n\n") ≡ codes "inline 5 -a-b-\ninline 1 -\n"
unfolding lines place_of is_blank_run digits lib.Utf8.encode
replaced_nothing = refl

-- in order of first sight
counted_lines : tokens_report (codes "if\nx\nif") ≡ codes "2 if\n1 x\n"
unfolding lines digits
counted_lines = refl

counted_empty_lines : tokens_report (codes "\n\n") ≡ codes "2 \n"
unfolding lines digits
counted_empty_lines = refl

counted_nothing : tokens_report [] ≡ []
unfolding lines
counted_nothing = refl

-- each mode has the report of its name
each_report : (t : List ℕ)
    → IsReport Show t (show_report t) × IsReport Join t (join_report t) × IsReport Lower t (lower_report t)
    × IsReport Upper t (upper_report t) × IsReport Tokens t (tokens_report t)
each_report t = (refl, refl, refl, refl, refl)

-- what is replaced comes first
report_replaced : (from to : String Global) (t : List ℕ)
    → IsReport (Replace from to) t (replace_report (chars (string_bytes from)) (chars (string_bytes to)) t)
report_replaced from to t = refl

-- a report is made of a text, and nothing is read or written meanwhile
no_other_text : (mode : Mode) (t : List ℕ) → ¬ (HasNoReport mode t NotUtf8)
no_other_text mode t is = is

no_io : (mode : Mode) (t : List ℕ) (e : Error) → ¬ (HasNoReport mode t (Io e))
no_io mode t e is = is
