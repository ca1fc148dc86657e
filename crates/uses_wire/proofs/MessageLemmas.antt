-- For messages behind one another: what is left of the bytes b after a fault of the first.
use Rattle.std.proofs.Common.{◌≡◌, ℕ, ◌+◌, ◌<◌, ◌≤◌, ◌⊎◌, inl, inr, ⊎_elim, List, ◌++◌, length, take, drop, Some, Result, Ok, Err, IfErr, OnErr, sym, ap, ◌∙◌, subst, arith, length-append, take-append-drop, length-drop}
use Rattle.std.proofs.lemmas.Bool.{cases_lt}
use Rattle.std.proofs.lemmas.List.{append_cancel_left, take-append-le, length-take-le}
use Rattle.std.specs.Int.{from_le_bytes, w32}
use Rattle.smol_str.specs.declared.borsh.fault.DecodeFault.{DecodeFault}
use Rattle.smol_str.specs.declared.borsh.fault.DecodeFault.TheVariants.{Ended, NotUtf8, OutOfMemory, Io}
use Rattle.smol_str.specs.declared.borsh.fault.LimitedFault.{LimitedFault}
use Rattle.smol_str.specs.declared.borsh.fault.LimitedFault.TheVariants.{TooLong, Decode}
use Rattle.smol_str.specs.Wire.{prefix_size}
use Rattle.smol_str.specs.WireFaults.{AfterDecodeFault, AfterLimitedFault}

-- the size that four bytes state does not depend on what follows them
prefix_size-front : (a x : List ℕ) → 4 ≤ length a → prefix_size (a ++ x) ≡ prefix_size a
unfolding prefix_size
prefix_size-front a x four = ap (from_le_bytes w32) (take-append-le 4 a x four)

-- bytes that came are of the first message alone
inside : (b l bytes : List ℕ) → b ≡ bytes ++ l → (length bytes < 4) ⊎ (length bytes ≤ 4 + prefix_size bytes)
    → length b ≤ length l + (4 + prefix_size b)
inside b l bytes is few =
    let all = ap length is ∙ length-append bytes l in
    ⊎_elim (λ (h : length bytes < 4). omega (arith, all, h)) (λ most. ⊎_elim
    (λ (h : length bytes < 4). omega (arith, all, h))
    (λ four. omega (arith, all, most, ap prefix_size is ∙ prefix_size-front bytes l four))
    (cases_lt (length bytes) 4)) few

pub within : (b l : List ℕ) (fault : DecodeFault) → AfterDecodeFault (Some b) (Some l) fault
    → length b ≤ length l + (4 + prefix_size b)
within b l Ended (inl h, end) = omega (arith, h)
within b l Ended (inr h, end) = omega (arith, h)
within b l (NotUtf8 e) (whole, body, is) =
    let n = 4 + prefix_size b in
    omega (arith, ap length (append_cancel_left (take n b) l (drop n b) (sym is ∙ sym (take-append-drop n b))), length-drop n b)
within b l OutOfMemory (large, (bytes, four, most, is)) = inside b l bytes is (inr most)
within b l (Io e) (bytes, inl few, any, is) = inside b l bytes is (inl few)
within b l (Io e) (bytes, inr few, any, is) = inside b l bytes is (inr (omega (arith, few)))

pub some_came : (b l : List ℕ) (fault : DecodeFault) → AfterDecodeFault (Some b) (Some l) fault → fault ≡ OutOfMemory
    → length l + 4 < length b
some_came b l fault h is =
    let (large, (bytes, four, most, whole)) = subst (AfterDecodeFault (Some b) (Some l)) is h in
    omega (arith, four, ap length whole, length-append bytes l)

-- of a size above the limit, no more than the size was read
pub size_alone : {T : Type 0} (b l : List ℕ) (limit : ℕ) (r : Result T LimitedFault)
    → IfErr r (AfterLimitedFault limit (Some b) (Some l)) → 4 ≤ length b → limit < prefix_size b
    → OnErr r (length b ≤ length l + 4)
size_alone b l limit (Ok v) h four above = tt
size_alone b l limit (Err TooLong) (some, larger, is) four above =
    omega (arith, ap length is, length-append (take 4 b) l, length-take-le 4 b four)
size_alone b l limit (Err (Decode Ended)) (h, states) four above = absurd (omega (arith, states four, above))
size_alone b l limit (Err (Decode (NotUtf8 e))) (h, states) four above = absurd (omega (arith, states four, above))
size_alone b l limit (Err (Decode OutOfMemory)) (h, states) four above = absurd (omega (arith, states four, above))
size_alone b l limit (Err (Decode (Io e))) (bytes, early, states, is) four above = ⊎_elim
    (λ (h : length bytes < 4). omega (arith, h, ap length is, length-append bytes l))
    (λ some. absurd (omega (arith, states some, above, ap prefix_size is ∙ prefix_size-front bytes l some)))
    (cases_lt (length bytes) 4)
