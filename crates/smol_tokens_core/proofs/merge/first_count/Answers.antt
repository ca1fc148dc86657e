use Rattle.std.proofs.Common.{◌∷◌, ◌++◌, ◌∙◌, arith}
use Rattle.std.specs.Fmt.{decimal}
use Rattle.std.specs.Str.{chars}
use Rattle.smol_tokens_core.proofs.DecimalLemmas.{chars-space, parts, begins-line}
use Rattle.smol_tokens_core.proofs.CountLemmas.{line}
use Rattle.smol_tokens_core.proofs.FirstLineLemmas.{chars-newline}
use Rattle.smol_tokens_core.proofs.merge.first_count.Goals as goal

pub returns-in_err-digits-clause-cut : goal.returns-in_err-digits-clause-cut
returns-in_err-digits-clause-cut c =
    let none = rw chars-space at c.in_err-digits.ensures.cut in
    rw c.from_residual.ensures (λ e rest begins. none (decimal e.1, e.0 ++ 10 ∷ rest, begins.0 ∙ line e rest))

pub returns-in_err-token-clause-cut : goal.returns-in_err-token-clause-cut
returns-in_err-token-clause-cut c =
    let cut = rw chars-space at c.in_ok-digits.ensures.cut in
    let none = rw chars-newline at c.in_err-token.ensures.cut in
    rw c.from_residual-in_err-token.ensures
    (λ e rest begins. none (e.0, rest, (parts (chars c.args.text.now) _ _ cut.0 cut.1 e rest begins).1))

pub returns-in_err-read_decimal-clause-cut : goal.returns-in_err-read_decimal-clause-cut
returns-in_err-read_decimal-clause-cut c =
    let cut = rw chars-space at c.in_ok-digits.ensures.cut in
    rw c.from_residual-in_err-read_decimal.ensures (λ e rest begins.
    c.in_err-read_decimal.ensures e.1 (begins.1 0 e (omega arith)).1
    (parts (chars c.args.text.now) _ _ cut.0 cut.1 e rest begins).0)

pub returns-clause-cut : goal.returns-clause-cut
returns-clause-cut c =
    let cut = rw chars-space at c.in_ok-digits.ensures.cut in
    let end = rw chars-newline at c.in_ok-token.ensures.cut in
    begins-line (chars c.args.text.now) _ _ cut.0 cut.1 _ _ c.in_ok-read_decimal.field-0 c.in_ok-read_decimal.ensures
    (omega arith) end.0 end.1
