use Rattle.std.proofs.lemmas.Grind.{common_steps}
use Rattle.std.proofs.Common.{arith}
use Rattle.smol_tokens_core.proofs.DecimalLemmas.{decimal-plain, decimal-bytes, reads_plain}
use Rattle.smol_tokens_core.proofs.merge.read_decimal.Goals as goal

pub returns-in_err-first : goal.returns-in_err-first
returns-in_err-first c =
    rw c.from_residual.ensures (λ n below is.
    grind (arith, common_steps, decimal-plain n below, decimal-bytes c.args.digits.now n c.utf8.digits below is))

pub returns-then-first-eq43 : goal.returns-then-first-eq43
returns-then-first-eq43 c = λ n below is.
    grind (arith, common_steps, decimal-plain n below, decimal-bytes c.args.digits.now n c.utf8.digits below is)

pub returns : goal.returns
returns c =
    rw c.ok.ensures.value
    (reads_plain c.args.digits.now c.parse.result c.utf8.digits c.parse.ensures.value.0
    (grind (arith, common_steps), grind (arith, common_steps), grind (arith, common_steps)))
