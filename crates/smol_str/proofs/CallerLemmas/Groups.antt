-- Entries of a map of `indexmap` that are changed in place, by `entry(key)?.or_default()`, as texts.
use Rattle.smol_str.proofs.Common.{◌≡◌, ℕ, List, [], ◌∷◌, option_map, refl, rules, unwrap_or, Meaning}
use Rattle.smol_str.proofs.CallerLemmas.Common.{Vec, lookup, option_map_id, entry_texts, same_key, with_change, with_entry, texts}
use Rattle.smol_str.proofs.CallerLemmas.Maps.{entries-inserted, lists-inserted}
use Rattle.smol_str.proofs.CallerLemmas.Values.{texts-push}

-- a change at a key's text sets what it makes of what the key has, as g reads it
changed : {V W : Type 0} (g : V → W) (es : List (Meaning × V)) (k : Meaning) (w : W) (f : W → W)
    → with_change (entry_texts g es) k.text w f ≡ with_entry (entry_texts g es) k.text (f (unwrap_or (option_map g (lookup (same_key k) es)) w))
changed g [] k w f = refl
changed g (e ∷ es) k w f = search (rules, changed g es k w f)

-- of what is kept as it is, and of lists of values
pub entries-changed : {V : Type 0} (es : List (Meaning × V)) (k : Meaning) (w : V) (f : V → V)
    → with_change (entry_texts (λ (v : V). v) es) k.text w f
    ≡ with_entry (entry_texts (λ (v : V). v) es) k.text (f (unwrap_or (lookup (same_key k) es) w))
entries-changed {V} es k w f = rw option_map_id at (changed (λ (v : V). v) es k w f)

pub lists-changed : {Z : Type 0} (es : List (Meaning × Vec Meaning Z)) (k : Meaning) (w : List (List ℕ)) (f : List (List ℕ) → List (List ℕ))
    → with_change (entry_texts (λ v. texts v.items) es) k.text w f
    ≡ with_entry (entry_texts (λ v. texts v.items) es) k.text (f (unwrap_or (option_map (λ v. texts v.items) (lookup (same_key k) es)) w))
lists-changed es k w f = changed (λ v. texts v.items) es k w f

pub ruleset grouped = (lists-changed, lists-inserted, texts-push)

pub ruleset counted = (entries-changed, entries-inserted)
