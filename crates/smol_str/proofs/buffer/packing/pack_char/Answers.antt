use Rattle.smol_str.proofs.Common.{◌≡◌, ◌≤◌, ◌-◌, ◌∙◌, sym, ap, arith, take, length, encode_utf8, length-encode, len_utf8_bounds, PACKED_LEN}
use Rattle.smol_str.proofs.TextLemmas.Sizes.{short_encode}
use Rattle.smol_str.proofs.BufferLemmas.Words.{AreBytes, bytes-encode, word-none, one-word, pack-step, all-with_zeros, pack-end}
use Rattle.smol_str.proofs.buffer.packing.pack_char.Goals as goal

pub returns : goal.returns
returns c =
    let character = c.args.character in
    let range = c.ranges.character in
    let bytes = encode_utf8 character in
    let are : AreBytes bytes = bytes-encode character (omega arith) in
    let long : length bytes ≡ c.len_utf8.result = length-encode character ∙ sym c.len_utf8.ensures.value in
    let few : length bytes ≤ 4 = omega (arith, length-encode character, (len_utf8_bounds character).1) in
    let first = one-word _ bytes _ are (omega (arith, few)) c.char_word.ensures c.put_word.ensures in
    let last = pack-step _ _ bytes (PACKED_LEN - 8) 0 are (short_encode character) (omega arith)
    (omega (arith, c.put_word.array_long)) (ap (take (PACKED_LEN - 8)) first)
    (sym (word-none 8 bytes (PACKED_LEN - 8) (omega (arith, few)))) c.put_word-2.ensures in
    rw (← long) (pack-end _ bytes (short_encode character)
    (all-with_zeros _ bytes c.put_word-2.array_long (short_encode character) last))
