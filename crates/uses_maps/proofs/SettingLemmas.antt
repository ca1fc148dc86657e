-- For settings: what is set by lines, and what a key's last line sets.
use Rattle.std.proofs.Common.{◌≡◌, ℕ, List, [], ◌∷◌, fold, Option, Some, None, bytes_eq, refl, ap, ◌∙◌, arith}
use Rattle.std.specs.Map.{lookup}
use Rattle.smol_str.proofs.CallerLemmas.{lookup-with_entry}
use Rattle.uses_maps.specs.Settings.{setting, with_setting, settings, value_in, or_else, last_value}

module _ (key : List ℕ) where
  lookup-with : (es : List (List ℕ × List ℕ)) (o : Option (List ℕ × List ℕ))
      → lookup (bytes_eq key) (with_setting es o) ≡ or_else (value_in key o) (lookup (bytes_eq key) es)
  lookup-with es None = refl
  lookup-with es (Some p) = grind (arith, lookup-with_entry key p.0 p.1 es)

  assoc : (a b c : Option (List ℕ)) → or_else a (or_else b c) ≡ or_else (or_else a b) c
  assoc None b c = refl
  assoc (Some v) b c = refl

  lookup-from : (lines : List (List ℕ)) (es : List (List ℕ × List ℕ))
      → lookup (bytes_eq key) (fold (λ pairs line. with_setting pairs (setting line)) es lines)
      ≡ or_else (last_value key lines) (lookup (bytes_eq key) es)
  lookup-from [] es = refl
  lookup-from (line ∷ lines) es =
      lookup-from lines (with_setting es (setting line))
      ∙ ap (or_else (last_value key lines)) (lookup-with es (setting line))
      ∙ assoc (last_value key lines) (value_in key (setting line)) (lookup (bytes_eq key) es)

  -- the value found for a key is that of its last line
  pub lookup-settings : (lines : List (List ℕ)) → lookup (bytes_eq key) (settings lines) ≡ last_value key lines
  lookup-settings lines = grind (arith, lookup-from lines [])

pub ruleset lookups = (lookup-settings)
