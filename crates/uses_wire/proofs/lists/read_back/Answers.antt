use Rattle.std.proofs.Common.{sym, ◌∙◌}
use Rattle.smol_str.proofs.CallerLemmas.{lists-apart}
use Rattle.uses_wire.proofs.lists.read_back.Goals as goal

pub returns-in-Ok : goal.returns-in-Ok
returns-in-Ok c =
    let read = c.in-Ok.ensures.listed in
    let both = lists-apart _ _ _ _ read.few c.requires.listed.few read.sized c.requires.listed.sized
    (sym c.in-Ok.ensures.form ∙ c.requires.written) in
    record { same = both.0; left = both.1 }
