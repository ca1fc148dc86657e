use Rattle.smol_str.proofs.Common.{chars, encodes-chars, IsUtf8, rules}
use Rattle.smol_str.specs.Json.{IsJsonText}
use Rattle.smol_str.proofs.JsonLemmas.{plain-begins, plain-ends, read-plain, read-plain-cut, read-same}
use Rattle.smol_str.proofs.json_string.read.from_json.Goals as goal

pub returns-in_default-clause-plain : goal.returns-in_default-clause-plain
returns-in_default-clause-plain c = λ t h _. absurd (plain-begins c.args.text.now t h (rw c.without_spaces.ensures at c.in_default.ensures))

pub returns-then-is_closed-clause-of_text : goal.returns-then-is_closed-clause-of_text
returns-then-is_closed-clause-of_text c = λ t reads.
    let text = c.args.text.now in
    let plain = c.split_plain.result.0.now in
    let cut = c.split_plain.ensures in
    let end = c.is_closed.ensures.closed c.if-is_closed.true in
    let utf8 : IsUtf8 plain = search rules in
    let string = read-plain-cut text c.in-Some.inner.now plain c.split_plain.result.1.now end.0 (rw c.without_spaces.ensures at c.in-Some.ensures) cut.whole cut.plain end.2 end.1 in
    let here : IsJsonText text (chars plain) = rw (encodes-chars plain utf8) string in
    rw (read-same text (chars plain) here t reads) c.in_ok-new.ensures.ok

pub returns-then-is_closed-clause-plain : goal.returns-then-is_closed-clause-plain
returns-then-is_closed-clause-plain c =
    λ t h _. returns-then-is_closed-clause-of_text c t (read-plain c.args.text.now t h)

pub returns-clause-plain : goal.returns-clause-plain
returns-clause-plain c =
    λ t h _. absurd (plain-ends c.args.text.now t h c.in-Some.inner.now _ (rw c.without_spaces.ensures at c.in-Some.ensures) c.split_plain.ensures.rest (c.is_closed.ensures.open c.if-is_closed.false))
