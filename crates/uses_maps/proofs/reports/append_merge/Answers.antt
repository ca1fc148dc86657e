use Rattle.std.specs.Str.{chars}
use Rattle.std.proofs.lemmas.Result.{on_ok_weaker, IfErr-weaker}
use Rattle.uses_maps.proofs.MergedLemmas.{merged-whole, not-other, not-full}
use Rattle.uses_maps.proofs.reports.append_merge.Goals as goal

pub returns-clause-whole : goal.returns-clause-whole
returns-clause-whole g c = λ a b whole fits is.
    on_ok_weaker c.run_with_hasher.result
    (λ wrote. rw (← merged-whole a b (chars c.args.reports.now.now) whole fits is wrote.1.1.0 wrote.1.1.1) wrote.1.1.2)
    c.run_with_hasher.ensures.ok

pub returns-clause-counts : goal.returns-clause-counts
returns-clause-counts g c = λ a b whole fits is.
    IfErr-weaker c.run_with_hasher.result _ _
    (λ fault after. (
      λ full. let ended = rw full at after in not-full a b (chars c.args.reports.now.now) whole fits is ended.2.1,
      λ n other. let ended = rw other at after in not-other a b (chars c.args.reports.now.now) whole fits is n ended.2.1,
    ))
    c.run_with_hasher.ensures.fault
