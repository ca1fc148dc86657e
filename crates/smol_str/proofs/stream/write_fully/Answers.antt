use Rattle.smol_str.proofs.Common.{◌≡◌, ℕ, ◌-◌, List, ◌++◌, length, take, drop, append_assoc, take-append-drop, take_rest, arith, common_steps, Appends-trans, rules}
use Rattle.smol_str.proofs.stream.write_fully.Goals as goal

-- what a step takes from the front of the rest goes over to what is done
moves_front : (all done rest : List ℕ) (n : ℕ) → all ≡ done ++ rest
    → all ≡ (done ++ take n rest) ++ take (length rest - n) (drop n rest)
moves_front all done rest n e = search (rules, take-append-drop, append_assoc, take_rest)

pub loop-rest-preserved : goal.loop-rest-preserved
loop-rest-preserved g c =
    let (done, split, appended) = c.loop-rest.invariant in
    let rest = c.loop-rest.rest.now in (
      done ++ take c.in_ok-n.n rest,
      moves_front _ done rest c.in_ok-n.n split,
      Appends-trans _ _ _ _ _ appended c.in_ok-n.ensures.bytes,
    )

pub returns-then-n-eq0-clause-beginning : goal.returns-then-n-eq0-clause-beginning
returns-then-n-eq0-clause-beginning g c = grind (arith, common_steps)
