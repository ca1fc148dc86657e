use Rattle.smol_str.proofs.Common.{encodes-chars, rules}
use Rattle.std.proofs.lemmas.Str.{IsUtf8-string_bytes}
use Rattle.smol_str.proofs.serde_impls.SmolStrDeserializeOwned.deserialize_owned.Goals as goal

pub returns-in-Ok-clause-read : goal.returns-in-Ok-clause-read
returns-in-Ok-clause-read g c = search (rules, encodes-chars, IsUtf8-string_bytes)
