-- Wire forms behind one another, read from a slice: where the next begins, and what is left of the bytes b after a fault.
use Rattle.smol_str.proofs.CallerLemmas.Common.{◌≡◌, ℕ, ◌+◌, ◌≤◌, List, [], ◌++◌, length, take, drop, Some, sym, ap, ◌∙◌, subst, arith, take-append-drop, append_cancel_left, drop-append_seam, IsUtf8, HasWire, wire, prefix_size, body, AfterDecodeFault}
use Rattle.smol_str.specs.declared.borsh.fault.DecodeFault.{DecodeFault}
use Rattle.smol_str.specs.declared.borsh.fault.DecodeFault.TheVariants.{Ended, OutOfMemory}
use Rattle.smol_str.specs.declared.borsh.TheConstants.{STACK_BODY}
use Rattle.smol_str.proofs.WireLemmas.Wire.{length-wire, prefix_size-wire}

pub left-of_value : (b l t : List ℕ) → HasWire t → b ≡ wire t ++ l → l ≡ drop (4 + prefix_size b) b
left-of_value b l t sized is =
    let whole : 4 + prefix_size b ≡ length (wire t) = omega (arith, length-wire t, ap prefix_size is ∙ prefix_size-wire t l sized) in
    sym (ap (λ n. drop n b) whole ∙ ap (drop (length (wire t))) is ∙ drop-append_seam (wire t) l)

pub left-of_ended : (b l : List ℕ) (fault : DecodeFault) → AfterDecodeFault (Some b) (Some l) fault → fault ≡ Ended → l ≡ []
left-of_ended b l fault h is = (subst (AfterDecodeFault (Some b) (Some l)) is h).1.2

-- all of a short form was read that there was no memory for
pub left-of_refused : (b l : List ℕ) (fault : DecodeFault) → AfterDecodeFault (Some b) (Some l) fault → fault ≡ OutOfMemory
    → prefix_size b ≤ STACK_BODY → IsUtf8 (body b) × (l ≡ drop (4 + prefix_size b) b)
left-of_refused b l fault h is short =
    let (large, some) = subst (AfterDecodeFault (Some b) (Some l)) is h in
    let (needs, consumed) = large.2 short in
    (needs.1, append_cancel_left (take (4 + prefix_size b) b) l _ (sym consumed ∙ sym (take-append-drop (4 + prefix_size b) b)))
