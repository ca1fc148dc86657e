use Rattle.smol_str.proofs.Common.{◌≡◌, length, drop, rules}
use Rattle.smol_str.proofs.CutLemmas.Bytes.{IsUtf8-each, whole-each, each_byte}
use Rattle.smol_str.proofs.str_ext.replace.replace_byte.Goals as goal

pub from_utf8_unchecked-requires : goal.from_utf8_unchecked-requires
from_utf8_unchecked-requires c =
    rw (c.replace_each.ensures, c.copy_from_slice.ensures.after, c.as_bytes.ensures.value)
    (IsUtf8-each _ _ c.requires.ascii_from c.requires.ascii_to c.args.text.now c.utf8.text)

pub returns-in_err-bytes-clause-refused : goal.returns-in_err-bytes-clause-refused
returns-in_err-bytes-clause-refused c = search (rules, each_byte)

pub from_utf8_unchecked-requires-2 : goal.from_utf8_unchecked-requires-2
from_utf8_unchecked-requires-2 c =
    let text : c.deref_mut.result.now ≡ c.args.text.now = search rules in
    let long : c.in_ok-bytes.bytes.len ≡ length c.args.text.now = search rules in
    let new = c.replace_each-2.new.bytes in
    let read = whole-each c.args.from c.args.to c.args.text.now new (drop (length new) c.in_ok-bytes.bytes.items)
    c.in_ok-bytes.bytes.len (rw text at c.replace_each-2.ensures) long in
    rw read (IsUtf8-each _ _ c.requires.ascii_from c.requires.ascii_to c.args.text.now c.utf8.text)
