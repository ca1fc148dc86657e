-- For `write_fmt`: pieces of a print, appended one after another.
use Rattle.smol_str.proofs.Common.{◌≡◌, List, ℕ, [], ◌∷◌, ◌++◌, encode_utf8_all, append-nil, concat, FoldsTo, chars, IsUtf8, encodes-append, encodes-chars, chars-nil, chars-append, IsUtf8-nil, IsUtf8-append, BuilderState, appended, common_steps, arith}
use Rattle.std.specs.Fmt.{WritesInCalls}
use Rattle.smol_str.proofs.BuilderLemmas.State.{appended-twice}

-- what a call of `write_str` does
abbrev Takes : BuilderState → List ℕ → BuilderState → Type 0
Takes s bs t = IsUtf8 bs × (t ≡ appended s (chars bs))

-- the builder after the pieces is that after all of them at once
pieces : (s : BuilderState) (parts : List (List ℕ)) (t : BuilderState) → appended s [] ≡ s → FoldsTo Takes s parts t
    → IsUtf8 (concat parts) × (t ≡ appended s (chars (concat parts)))
pieces s [] t whole run = (IsUtf8-nil, cc (chars-nil))
pieces s (p ∷ ps) t whole (j, took, run) =
    let u = chars p in
    let same : appended j [] ≡ j = cc (took.1, appended-twice s u [], append-nil u) in
    let rest = pieces j ps t same run in
    let parts = chars-append p (concat ps) took.0 in
    (IsUtf8-append p (concat ps) took.0 rest.0, cc (rest.1, took.1, appended-twice s u (chars (concat ps)), parts))

module _ (s : BuilderState) (bs : List ℕ) (t : BuilderState) (whole : appended s [] ≡ s) (w : WritesInCalls Takes s bs t) where
  pub printed-text : t ≡ appended s (chars bs)
  printed-text = cc ((pieces s w.parts t whole w.calls).1, w.whole)

  pub printed-bytes : encode_utf8_all t.text ≡ encode_utf8_all s.text ++ bs
  printed-bytes = grind (arith, common_steps, pieces, encodes-append, encodes-chars)
