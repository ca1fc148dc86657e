-- That a `&str` may be looked up in place of a key, as `indexmap` wants it: `impl Equivalent<SmolStr>` for a type
-- of the caller's that holds a `&str` cites these.
--     stands_for-hash    it is hashed as each key that it matches
--     stands_for-same    it matches the keys that are equal to that one, and no other
use Rattle.std.specs.Prelude.{◌≡◌, ℕ, List, encode_utf8_all, IsTrue}
use Rattle.std.proofs.Common.{ap, sym, ◌∙◌}
use Rattle.std.proofs.lemmas.Str.{encodes_same}
use Rattle.std.specs.Bool.{one_answer}
use Rattle.std.specs.Cmp.Lexicographic.{bytes_decides}
use Rattle.std.specs.Hash as fed
use Rattle.smol_str.specs.Keys.{same_key, stands_for}
use Rattle.smol_str.specs.Meaning.{Meaning}

pub stands_for-hash : (bs : List ℕ) (key : Meaning) → IsTrue (stands_for bs key)
    → fed.str bs ≡ fed.str (encode_utf8_all key.text)
stands_for-hash bs key stands = ap fed.str ((bytes_decides bs (encode_utf8_all key.text)).0 stands)

pub stands_for-same : (bs : List ℕ) (x y : Meaning) → IsTrue (stands_for bs x) → stands_for bs y ≡ same_key x y
stands_for-same bs x y stands =
    let spelt = (bytes_decides bs (encode_utf8_all x.text)).0 stands in
    let other = bytes_decides bs (encode_utf8_all y.text) in
    one_answer (stands_for bs y) (same_key x y)
    (λ h. encodes_same x.text y.text (sym spelt ∙ other.0 h), λ e. other.1 (spelt ∙ ap encode_utf8_all e))
    (bytes_decides x.text y.text)
