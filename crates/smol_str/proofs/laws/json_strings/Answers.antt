use Rattle.smol_str.proofs.Common.{[], refl}
use Rattle.smol_str.proofs.laws.json_strings.Goals as goal

pub returns-clause-quoted : goal.returns-clause-quoted
returns-clause-quoted c = λ b t plain is. (plain, ([], [], refl, refl, is))
