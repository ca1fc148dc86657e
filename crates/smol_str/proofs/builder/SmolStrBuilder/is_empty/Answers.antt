use Rattle.std.proofs.Common.{rules}
use Rattle.smol_str.proofs.TextLemmas.Sizes.{no-bytes}
use Rattle.smol_str.proofs.builder.SmolStrBuilder.is_empty.Goals as goal

pub returns-clause-text : goal.returns-clause-text
returns-clause-text c = no-bytes c.args.self.now.text (search rules)
