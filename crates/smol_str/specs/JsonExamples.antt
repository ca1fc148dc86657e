-- The JSON value of a small text, computed by the checker.
use Rattle.std.specs.Prelude.{◌≡◌, [], ◌∷◌, codes, refl}
use Rattle.serde_json.specs.Data as json
use Rattle.smol_str.specs.Json.{json_value}

-- the bytes of the text, and no quotes or escapes
value_of_a_text : json_value (codes "\"é\n") ≡ json.string (34 ∷ 195 ∷ 169 ∷ 10 ∷ [])
unfolding lib.Utf8.encode
value_of_a_text = refl
