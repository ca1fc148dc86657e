-- What holds of a result, where it is known which it is or where it holds anyway.
use Rattle.smol_str.proofs.Common.{◌≡◌, true, Result, OnOk, OnErr, is_ok, rules, arith, err_from_is_err_and}
use Rattle.std.specs.Result.{IsErrAnd, IfErr}

-- what holds anyway holds of an `Err`
pub OnErr-always : {T E : Type 0} (r : Result T E) (P : Type 0) → P → OnErr r P
OnErr-always r P h = search rules

-- a result that is known to be a fault
pub IfErr-is : {T F : Type 0} (P : F → Type 0) (r : Result T F) (f : F) → IsErrAnd r (λ fault. fault ≡ f) → P f → IfErr r P
IfErr-is P r f failed p = search (rules, arith, err_from_is_err_and)

-- a fact for `Ok`, from the test
pub OnOk-if : {T E : Type 0} (r : Result T E) (P : Type 0) → (is_ok r ≡ true → P) → OnOk r P
OnOk-if r P h = search rules
