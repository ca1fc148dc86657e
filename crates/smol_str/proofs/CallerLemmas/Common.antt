-- The names of std and of `specs` that the lemmas for callers cite, passed on from one place. Declares nothing.
pub use Rattle.smol_str.specs.Keys.{entry_texts, same_key, with_change, with_entry, interned, value_at, ordered_value_at, innermost, entry_lists, stands_for, has_text}
pub use Rattle.smol_str.specs.Meaning.{texts, IsValueOf, AreValuesOf}
pub use Rattle.smol_str.specs.Wire.{HasWire, wire, prefix_size, body}
pub use Rattle.smol_str.specs.WireFaults.{AfterDecodeFault, AfterEncodeFault}
pub use Rattle.std.proofs.Common.{◌≢◌, MatchBool, get_or, is_some, set, ◌||◌, ◌≡◌, ℕ, ◌+◌, ◌≤◌, List, [], ◌++◌, length, take, drop, Some, sym, ap, ◌∙◌, subst, arith, take-append-drop, ◌↔◌, nat_eq, reverse}
pub use Rattle.std.proofs.Math.Seq.{drop-length, drop-append_seam}
pub use Rattle.std.proofs.lemmas.Grind.{take_at_read, flat_map-append, common_steps, fold-append}
pub use Rattle.std.proofs.lemmas.Iterator.Adapters.{YieldsList-from_repeat_n, YieldsList-from_vec, YieldsList-from_skip_while, option_map_id, YieldsList-from_skip, YieldsList-from_flat_map}
pub use Rattle.std.proofs.lemmas.Iterator.Consumers.{YieldsList-from_chain, YieldsList-from_filter, YieldsList-from_filter_map, YieldsList-from_shown, YieldsList-at, YieldsList-from_copied}
pub use Rattle.std.proofs.lemmas.Iterator.Splits.{YieldsList-from_lines, YieldsList-from_shown_while, YieldsList-from_str_split}
pub use Rattle.std.proofs.lemmas.List.{append_cancel_left, take_more, drop-map, length-map, map-set, set_past, take-map, get_or-map, take_more_set, take-set-le, flat_map_more, get_or_append_left, get_or_push, reverse-append, length-reverse, nil_from_length}
pub use Rattle.std.proofs.lemmas.List.Elements.{filter-append, filter_map-append, filter_more, All-filter, filter_agree, All-push}
pub use Rattle.std.proofs.lemmas.List.Folds.{flat_map-map, prefix_len-append, list_any-append, list_any_none}
pub use Rattle.std.proofs.lemmas.List.Sums.{prefix_len-le-length, AllPass-from_list_all}
pub use Rattle.std.proofs.lemmas.Option.{slice_get-get_or, slice_get-map, slice_get_read}
pub use Rattle.std.proofs.lemmas.Simd.{map-map}
pub use Rattle.std.proofs.lemmas.Slice.Eq.{bytes_eq-Decides, slice_eq-Decides}
pub use Rattle.std.proofs.lemmas.Str.{IsUtf8-string_bytes, chars-append, IsUtf8-drop, IsUtf8-take, encode_ascii, chars-nil}
pub use Rattle.std.specs.Array.Iter.{array_steps, array_into_iter_items}
pub use Rattle.std.specs.Fn.{Called}
pub use Rattle.std.specs.Iterator.{Yields, DrainsIf, AlwaysYields}
pub use Rattle.std.specs.Iterator.Adapters.{filter_map_source, filter_map_callee, filter_map_steps, map_source, map_callee, enumerate_source, enumerate_count, rev_source, rev_steps, take_source, take_count, take_steps, skip_source, skip_count, skip_steps, map_steps, copied_source, copied_steps, flatten_source, flatten_front, flatten_back, flatten_done, flatten_steps}
pub use Rattle.std.specs.List.{filter_map, prefix_len, join_by, last_or, position, enumerate_from, filter, fold, list_any, dedup, dedup_from, HoldsAt, slice_split}
pub use Rattle.std.specs.Map.{lookup, KeepsOthers}
pub use Rattle.std.specs.Option.{IfNone, option_copied, option_or}
pub use Rattle.std.specs.Ordering.{is_eq, eq_by_cmp}
pub use Rattle.std.specs.Prelude.{Vec}
pub use Rattle.std.specs.Slice.Iter.{iter_rest, iter_steps, iter_steps_back}
pub use Rattle.std.specs.Str.{IsCharBoundary, NonePass, trim, skip_leading_whitespace, drop_trailing_whitespace, bytes_eq, IsUtf8}
pub use Rattle.std.specs.Str.Iter.{split_text, split_has_more, split_pattern, split_steps, chars_rest, chars_steps, lines_rest, lines_steps, chars_steps_back}
pub use Rattle.std.specs.Str.Lines.{lines}
pub use Rattle.std.specs.Str.Pattern.{FindsText, CutsPrefixes, FindsCharPrefix, FindsChar, FindsTextPrefix, FindsTextSuffix, HasCharAt, HasMatch, HasPrefixMatch, HasSuffixMatch, HasTextAt, LacksTextAt, StripsPrefix, StripsSuffix}
pub use Rattle.std.specs.declared.array.IntoIter.{IntoIter}
pub use Rattle.std.specs.declared.iter.Map.{Map}
pub use Rattle.std.specs.declared.slice.Iter.{Iter}
pub use Rattle.std.specs.declared.str.Chars.{Chars}
pub use Rattle.std.specs.declared.str.Split.{Split}
pub use denote.Param.Members.{Mut}
