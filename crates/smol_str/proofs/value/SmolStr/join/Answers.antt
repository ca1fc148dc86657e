use Rattle.smol_str.proofs.Common.{◌≡◌, ◌∷◌, ◌++◌, arith, rules, chars, flat_map, string_bytes}
use Rattle.smol_str.proofs.BuilderLemmas.Join.{joined-first}
use Rattle.smol_str.proofs.TextLemmas.Results.{OnErr-always}
use Rattle.smol_str.proofs.value.SmolStr.join.Goals as goal

pub returns-in_err-text-clause-refused : goal.returns-in_err-text-clause-refused
returns-in_err-text-clause-refused g c =
    let whole : c.args.pieces.now ≡ c.in-Some.first.now ∷ c.in-Some.others.now = search rules in
    let joins = joined-first g.P.Piece.text (chars c.args.separator.now) _ _ _ whole in
    OnErr-always c.from_residual.result _
    (rw joins (λ short. omega (arith, short, c.min_len-room.ensures, c.if-room-gt-INLINE_CAP.true)))

pub returns-in-Some-2-clause-ok : goal.returns-in-Some-2-clause-ok
returns-in-Some-2-clause-ok g c =
    let whole : c.args.pieces.now ≡ c.in-Some.first.now ∷ c.in-Some.others.now = search rules in
    let joins = joined-first g.P.Piece.text (chars c.args.separator.now) _ _ _ whole in
    let text : chars (string_bytes c.in-Some-2.text) ≡ g.P.Piece.text c.in-Some.first.now
    ++ flat_map (λ (piece : g.row.P.Denot). chars c.args.separator.now ++ g.P.Piece.text piece) c.in-Some.others.now =
    rw c.in-Some-2.is at c.in_ok-text.ensures in
    rw (joins, ← text) c.from_owned.ensures.ok

pub returns-in-Some-2-clause-refused : goal.returns-in-Some-2-clause-refused
returns-in-Some-2-clause-refused g c =
    let whole : c.args.pieces.now ≡ c.in-Some.first.now ∷ c.in-Some.others.now = search rules in
    let joins = joined-first g.P.Piece.text (chars c.args.separator.now) _ _ _ whole in
    OnErr-always c.from_owned.result _
    (rw joins (λ short. omega (arith, short, c.min_len-room.ensures, c.if-room-gt-INLINE_CAP.true)))

pub returns-clause-ok : goal.returns-clause-ok
returns-clause-ok g c =
    let whole : c.args.pieces.now ≡ c.in-Some.first.now ∷ c.in-Some.others.now = search rules in
    let joins = joined-first g.P.Piece.text (chars c.args.separator.now) _ _ _ whole in
    rw joins c.join_appended.ensures.ok

pub returns-clause-refused : goal.returns-clause-refused
returns-clause-refused g c =
    let whole : c.args.pieces.now ≡ c.in-Some.first.now ∷ c.in-Some.others.now = search rules in
    let joins = joined-first g.P.Piece.text (chars c.args.separator.now) _ _ _ whole in
    rw joins c.join_appended.ensures.refused
