use Rattle.smol_str.proofs.Common.{◌≡◌, ◌<◌, ◌^◌, IsTrue, length, arith, sym, ap, ◌∙◌, subst, encode_utf8_all, all_scalars, encodes-chars, scalars-chars, All-from_get_or, HasEndedEarly, body, Holds, rules}
use Rattle.smol_str.proofs.TextLemmas.Results.{IfErr-is}
use Rattle.smol_str.proofs.WireLemmas.Borsh.{prefix_size_of_bytes}
use Rattle.smol_str.proofs.WireLemmas.Wire.{Holds-stated}
use Rattle.smol_str.proofs.borsh.from_wire.Goals as goal

pub returns-clause-ok : goal.returns-clause-ok
returns-clause-ok c =
    let b = c.args.bytes.now in
    let found = c.in-Some-get.body.now in
    let (utf8, value) = c.in_ok-value.ensures.ok in
    let is : found ≡ encode_utf8_all c.in_ok-value.value.text = cc (encodes-chars found utf8, value.text) in
    let bytes = All-from_get_or (λ c. c < 2 ^ 8) b 0 (λ i _. omega (arith, c.type_inv.bytes i)) in
    let scalars = subst (λ t. IsTrue (all_scalars t)) (sym value.text) (scalars-chars found utf8) in
    let whole : ¬ (HasEndedEarly b) = search (rules, arith, prefix_size_of_bytes) in
    let same : body b ≡ found = search (rules, arith, prefix_size_of_bytes) in
    subst (λ n. Holds b c.in_ok-value.value.text n) (omega (arith, ap length is))
    (Holds-stated b _ bytes whole (same ∙ is) scalars)

pub returns-in_err-value-clause-fault : goal.returns-in_err-value-clause-fault
returns-in_err-value-clause-fault c =
    let whole : ¬ (HasEndedEarly c.args.bytes.now) = search (rules, arith, prefix_size_of_bytes) in
    let same : c.in-Some-get.body.now ≡ body c.args.bytes.now = search (rules, arith, prefix_size_of_bytes) in
    let fault = rw same at c.in_err-value.ensures.fault in
    IfErr-is _ _ _ c.from_residual.ensures.1 (search (rules, whole, fault))
