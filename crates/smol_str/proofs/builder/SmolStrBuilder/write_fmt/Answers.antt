use Rattle.smol_str.proofs.Common.{on_ok_weaker, arith, rules}
use Rattle.std.proofs.lemmas.Option.{IfSome_then}
use Rattle.smol_str.proofs.BuilderLemmas.State.{appended-nothing}
use Rattle.smol_str.proofs.BuilderLemmas.Format.{printed-text, printed-bytes}
use Rattle.smol_str.proofs.builder.SmolStrBuilder.write_fmt.Goals as goal

pub returns : goal.returns
returns g c = search (rules, arith, appended-nothing, on_ok_weaker, IfSome_then, printed-text, printed-bytes)
