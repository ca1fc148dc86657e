-- For lists on the wire: bytes that begin with one, and those that are not read, which begin with none.
use Rattle.std.proofs.Common.{◌≡◌, ℕ, ◌<◌, ◌^◌, List, [], ◌∷◌, ◌++◌, length, IsTrue, Result, Ok, Err, IfErr, IsErrAnd, sym, ap, subst, ◌∙◌, arith, append_assoc, append-nil, length-append}
use Rattle.std.proofs.lemmas.List.Elements.{All-nil, All-cons}
use Rattle.std.specs.Str.{all_scalars}
use Rattle.smol_str.specs.declared.borsh.fault.DecodeFault.{DecodeFault}
use Rattle.smol_str.specs.declared.borsh.fault.DecodeFault.TheVariants.{Ended, NotUtf8, OutOfMemory, Io as ReadFailed}
use Rattle.smol_str.specs.Wire.{HasWire, wire}
use Rattle.smol_str.specs.WireFaults.{AfterFromWireFault}
use Rattle.smol_str.proofs.CallerLemmas.{lists-apart, form_is_whole, form-cut-utf8, AreRead, next_form}
use Rattle.uses_wire.specs.Lists.{CanBeListed, list_form, BeginsWithList, AfterListFault}

-- bytes of a list whose end is missing begin with none
pub not_whole : (bytes missing left : List ℕ) (ss ts : List (List ℕ)) → CanBeListed ss → CanBeListed ts
    → bytes ++ missing ≡ list_form ts → 0 < length missing → ¬ (bytes ≡ list_form ss ++ left)
not_whole bytes missing left ss ts h k cut some e =
    let whole = ap (λ l. l ++ missing) (sym e) ∙ cut ∙ sym (append-nil (list_form ts)) in
    let both = lists-apart ss ts (left ++ missing) [] h.few k.few h.sized k.sized
    (sym (append_assoc (list_form ss) left missing) ∙ whole) in
    omega (arith, length-append left missing, ap length both.1, some)

-- the form of a list of one text, and what follows it
pub one_begins : (bytes t rest : List ℕ) → HasWire t → IsTrue (all_scalars t) → bytes ≡ list_form (t ∷ []) ++ rest
    → BeginsWithList bytes
one_begins bytes t rest fits scalars is =
    let can : CanBeListed (t ∷ []) = record { few = omega arith; sized = All-cons HasWire t [] fits (All-nil HasWire) } in
    (t ∷ [], rest, can, All-cons (λ u. IsTrue (all_scalars u)) t [] scalars (All-nil (λ u. IsTrue (all_scalars u))), is)

-- a loop that reads a list, where the next text is not read
module _ (bytes : List ℕ) (count : ℕ) (ts : List (List ℕ)) (rest : List ℕ) (i : ℕ)
    (read : AreRead bytes count ts rest i) (few : count < 2 ^ 32) (below : i < count) where
  next_of : (more : List ℕ) → BeginsWithList (bytes ++ more)
      → (t after : List ℕ) × HasWire t × IsTrue (all_scalars t) × (rest ++ more ≡ wire t ++ after)
  next_of more (us, x, can, scalars, e) =
      next_form bytes count ts rest i read few below us more x can.few can.sized scalars e

  after_fault : (fault : DecodeFault) → AfterFromWireFault rest fault → AfterListFault bytes fault
  after_fault Ended h = λ begins.
      let (t, after, sized, scalars, e) = next_of [] (subst BeginsWithList (sym (append-nil bytes)) begins) in
      form_is_whole rest t after sized scalars (sym (append-nil rest) ∙ e) h
  after_fault (NotUtf8 fault) h = λ more begins.
      let (t, after, sized, scalars, e) = next_of more begins in
      h.1.0 (form-cut-utf8 rest more t after sized scalars e h.0)
  after_fault OutOfMemory h = tt
  after_fault (ReadFailed e) h = h

  pub not_read : {T : Type 0} (r : Result T DecodeFault) (fault : DecodeFault) → IsErrAnd r (λ f. f ≡ fault)
      → AfterFromWireFault rest fault → IfErr r (AfterListFault bytes)
  not_read (Ok x) fault same h = tt
  not_read (Err f) fault same h = subst (AfterListFault bytes) (sym same) (after_fault fault h)
