-- The names that many proofs of this crate cite, passed on from one place. Declares nothing.
pub use Rattle.std.proofs.Common.{◌≡◌, Option, refl, sym, ◌∙◌, ap, ◌⊎◌, inl, inr, Bool, true, false, ◌&&◌, cond, ⊎_elim, IsTrue, subst, MatchOption, Result, Ok, Err, IfOk, ◌↔◌, Some, None, option_map, unwrap_or, Global, Bor, OnOk, OnErr, not, IfSome, MatchBool, is_ok, if◌then◌else◌, rules}
pub use Rattle.std.proofs.Common.{ℕ, ◌<◌, ◌-◌, ◌≤◌, nat_le, arith, zero, suc, ◌+◌, ◌^◌, lit<, w32, ◌/◌, ◌*◌, nat_eq, w64, pow-add, min, nat_cmp, ne_eqb, ◌==◌, ◌%◌, leb, ltb, w8, bit_and, leb-true, leb-false, ltb-true, ltb-false, lt-ltb, le-ltb, le_refl}
pub use Rattle.std.proofs.Common.{List, [], ◌∷◌, ◌++◌, length, append_assoc, get_or, take, drop, length-append, take-append-drop, All, take_at, drop_at, length-take-le, length-drop, take-add, append-nil, map, set, replicate, take_all, map-id, length-take, take-take, drop-drop, get_or-drop, get_or-take, slice_get, flat_map, bytes_eq, drop-cons, slice_range}
pub use Rattle.std.proofs.Common.{chars, IsUtf8, encode_utf8_all, IsAscii, IsCharBoundary, String, string_bytes, encode_utf8}
pub use Rattle.smol_str.specs.Buffer.{IsPacked, packed, padded, unpacked, HaveOneBuffer}
pub use Rattle.smol_str.specs.Case.{front, lower, upper, lowercased, uppercased, IsAsciiText, BeginsPastAscii, letter, converted, letters, full_case, mapped, IsAsciiFront}
pub use Rattle.smol_str.specs.Cut.{StandsAt, Occurs, IsNextMatch, IsCut, IsOnlyCut, joined_by, IsFirstAfter, IsCutAt, but_last, IsSpelled, IsCutBetween}
pub use Rattle.smol_str.specs.BuilderState.{BuilderState, OnHeap, empty_builder, kind_for, appended, Kind, InBuffer, kind_with}
pub use Rattle.smol_str.specs.Joined.{joined, str_text, string_text, joined_strs, joined_strings, joined_string_refs}
pub use Rattle.smol_str.specs.Meaning.{Meaning, IsValueOf}
pub use Rattle.smol_str.specs.Replace.{replaced, replaced_all, split_at_first, cut, cut_at, cut_between, spell, no_limit, match_count, each_with, each_replaced}
pub use Rattle.smol_str.specs.Replacing.{IsReplacing}
pub use Rattle.smol_str.specs.Text.{IsShort, size, is_short, place_of, blank_run, leading_newlines, all_spaces, IsBlankRun, IsResident}
pub use Rattle.smol_str.specs.Wire.{HasWire, wire, Holds, HasEndedEarly, body}
pub use Rattle.smol_str.specs.Words.{put_at}
pub use Rattle.smol_str.specs.declared.buffer.TheConstants.{INLINE_CAP, PACKED_LEN}
pub use Rattle.smol_str.specs.declared.bytes.ascii.AsciiCase.{AsciiCase}
pub use Rattle.smol_str.specs.declared.bytes.ascii.AsciiCase.TheVariants.{Lower, Upper}
pub use Rattle.std.proofs.KnownBytes.{Appends-trans, Consumes-trans}
pub use Rattle.std.proofs.Math.Seq.{take-append-add, drop-append-add}
pub use Rattle.std.proofs.lemmas.Bool.{cases_lt, cases_order, false_from_ne_true, false≢true, and_parts}
pub use Rattle.std.proofs.lemmas.Bool.Decides.{nat_tests, Decides-and, Decides-like, Decides-eqb, same_from_decides, not_from_Decides}
pub use Rattle.std.proofs.lemmas.Iterator.{YieldsList, YieldsList-from_chars, YieldsList-from_slice, items_from_drains}
pub use Rattle.std.proofs.lemmas.List.{append_cancel_left, drop_all, map-append, length-map, set_at, take_more, drop-take, take-append-le, get_or_past, length-replicate, drop-replicate, get_or_at, drop-append-le, drop_more, take-replicate, take_rest, replicate_more, nil_from_length}
pub use Rattle.std.proofs.lemmas.List.Elements.{All-head, All-tail, All-nil, All-cons, All-from_get_or, All-map, All-replicate, All-take}
pub use Rattle.std.proofs.lemmas.Nat.{from_le_bytes-to_le_bytes_4, le_bytes_4, le_bytes_8}
pub use Rattle.std.proofs.lemmas.Result.{err_from_is_err_and, on_err_weaker, on_ok_weaker, IfOk-weaker, IfErr-weaker}
pub use Rattle.std.proofs.lemmas.Simd.{put_chunk_is, mask_l-mod, tops_compared}
pub use Rattle.std.proofs.lemmas.Str.{encodes_same, chars-encodes, encodes-chars, scalars-chars, IsUtf8-from_ascii, chars-IsAscii, encodes-IsAscii, cons_from_encodes, encodes-append, length-encode, length-le-encodes, chars-nil, chars-append, IsUtf8-append, IsUtf8-string_bytes, IsAscii-append, chars_from_encodes, IsCharBoundary-at_seam, IsAscii-take, IsAscii-drop, IsUtf8-drop}
pub use Rattle.std.proofs.lemmas.Str.{IsCharBoundary-from_take, IsUtf8-nil, len_utf8_bounds, IsCharBoundary-from_ascii, IsCharBoundary-start, IsUtf8-encode}
pub use Rattle.std.proofs.lemmas.Str.Ascii.{lowercase_ascii, uppercase_ascii, lowercase_is, uppercase_is, IsAscii-from_all, IsAscii-cons, IsAscii-nil, IsAscii-map, All-from_ascii, IsAscii-more, IsAscii-push}
pub use Rattle.std.specs.Char.{to_ascii_lowercase, to_ascii_uppercase, len_utf8, is_ascii, IsAsciiUppercase, IsAsciiLowercase}
pub use Rattle.std.specs.Cmp.Lexicographic.{pointwise, bytes_decides, slice_cmp, nat_list_cmp_total}
pub use Rattle.std.specs.Int.{to_le_bytes, from_le_bytes, from_be_bytes}
pub use Rattle.std.specs.Io.KnownBytes.{Appends, Consumes}
pub use Rattle.std.specs.List.{concat, starts_with, list_all, FoldsTo}
pub use Rattle.std.specs.Ordering.{ordering_then, ordering_reverse}
pub use Rattle.std.specs.Simd.Lanes.{put_chunk, zip2, sel_l, mask_l, top, Each1}
pub use Rattle.std.specs.Str.{all_scalars, IsNotAscii}
pub use lib.Utf8.{encode, next, scalar, scalars, encodes}
pub use Rattle.std.proofs.lemmas.Option.{same_Some}
pub use Rattle.std.proofs.lemmas.Cmp.{tied_itself}
pub use Rattle.std.proofs.lemmas.Grind.{common_steps}
