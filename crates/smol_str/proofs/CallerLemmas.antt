-- For proofs of crates that use this one: import from here alone.
--
-- Give a ruleset to a function: `#[tactic(auto, using(smol_str::proofs::CallerLemmas::NAME))]`, two rulesets where a goal wants
-- both. CALLING.md says which goals each closes, and how to say a clause so that it is closed.
--
-- To add one:
--     - A ruleset has at most 25 lemmas, with those of the rulesets in it: `grind` stops at a number of instances, and one
--       lemma that fits everywhere takes them all. So each kind of caller has a ruleset of its own. `cut_once` is full.
--     - `grind` finds no pattern below a λ. Of a clause on every text, a lemma repeats in its first part what is outside the
--       λ, as `insert_entry`, `KeepsOthers` or `if`; its second part is a function, which `grind` finds by `chars bs`.
--     - The left side of an equation has `chars`, and every variable.
pub mod Common
pub mod Texts
pub mod Builders
pub mod Values
pub mod Sorting
pub mod Interning
pub mod Maps
pub mod Groups
pub mod Loops
pub mod Collecting
pub mod Cuts
pub mod CutOnce
pub mod Wire
pub mod Messages
pub mod Crates
mod Iterators
mod Splits
pub use Rattle.smol_str.proofs.CallerLemmas.Texts.{texts, compared, tested, replacing, prints}
pub use Rattle.smol_str.proofs.CallerLemmas.Builders.{builders, passed_builders, by_entry}
pub use Rattle.smol_str.proofs.CallerLemmas.Values.{texts-push, text_at, listed, stacked, among}
pub use Rattle.smol_str.proofs.CallerLemmas.Sorting.{sorting}
pub use Rattle.smol_str.proofs.CallerLemmas.Interning.{interning, bytes_eq-apart}
pub use Rattle.smol_str.proofs.CallerLemmas.Maps.{updates, lookups, inserts, put_and_asked, scopes, lookup-with_entry}
pub use Rattle.smol_str.proofs.CallerLemmas.Groups.{grouped, counted}
pub use Rattle.smol_str.proofs.CallerLemmas.Loops.{by_line, by_char, by_char_some, by_item, by_text, side_by_side, sized, size_more}
pub use Rattle.smol_str.proofs.CallerLemmas.Collecting.{collecting_chars, collecting_strs, collecting_pieces, collecting_strings, chars_by_std, strings_by_std, texts_collected}
pub use Rattle.smol_str.proofs.CallerLemmas.Cuts.{cutting, joining, by_piece, among_pieces, pieces_lack}
pub use Rattle.smol_str.proofs.CallerLemmas.CutOnce.{cut_once, stripped, stripped_both, cut_at_texts, cut_alike, not_taken, trimmed}
pub use Rattle.smol_str.proofs.CallerLemmas.Wire.{forms, parts, items, items-apart, lists-apart, form_is_whole, form-cut-utf8, AreRead, one_read, all_read, next_form}
-- for an answer in a loop over wire forms: what is left after a value, after an early end, and where memory was refused
pub use Rattle.smol_str.proofs.CallerLemmas.Messages.{left-of_value, left-of_ended, left-of_refused}
pub use Rattle.smol_str.proofs.CallerLemmas.Crates.{owned, chars_cut}
-- the characters of what `as_str` lends, and the keys that a `&str` matches
pub use Rattle.smol_str.proofs.TextLemmas.Chars.{chars-as_str, stands_for-text}
-- each front of a short text is short; the size of the text that bytes spell, and of two texts, one after the other
pub use Rattle.smol_str.proofs.TextLemmas.Sizes.{IsShort-front, size-chars, size-append}
-- what holds of an `Err` where it holds whatever came, or of the one fault that came
pub use Rattle.smol_str.proofs.TextLemmas.Results.{OnErr-always, IfErr-is}
-- bytes of a text in two parts, at the size of the first: they may be cut there, into these
pub use Rattle.smol_str.proofs.TextLemmas.Split.{boundary-parts, chars-take, chars-drop}
-- appending twice is appending the joined text, and nothing changes nothing; a new builder leaves its buffer only for a
-- text that is not short
pub use Rattle.smol_str.proofs.BuilderLemmas.State.{appended-twice, appended-nothing, OnHeap-long}
pub use Rattle.smol_str.proofs.BuilderLemmas.Push.{appended-heap}
-- cuts: the one there is, a first match in front of a cut, a text without a match, and what joins pieces
pub use Rattle.smol_str.proofs.CutLemmas.Cut.{same_parts, joined_more, IsCut-cut, IsCut-unique, IsCutAt-step, IsCutAt-unmatched}
