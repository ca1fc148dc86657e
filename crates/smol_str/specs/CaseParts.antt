-- A text in a case, appended part by part.
--     word_after w t                 whether a word goes on after t, where w says whether one does before it
--     IsPartOf case old new t rest   the builder old and what a front of t is mapped to, where rest is what follows that front
--     IsLowered t b rest             the builder b has what is before the rest of t, in the lower case that it has in t
--     IsLowering t b index           the same, where the rest begins at a byte index
use Rattle.std.specs.Prelude.{◌≡◌, ℕ, Bool, false, List, [], ◌∷◌, ◌++◌}
use Rattle.std.specs.StrCase.Lower.{is_in_word_after, lowercase_chars}
use Rattle.smol_str.specs.declared.bytes.ascii.AsciiCase.{AsciiCase}
use Rattle.smol_str.specs.Text.{size}
use Rattle.smol_str.specs.BuilderState.{BuilderState, InBuffer, empty_builder, appended}
use Rattle.smol_str.specs.Case.{mapped, lowercased}

-- of the text t a front was appended in this case, and the rest follows it
pub record IsPartOf (case : AsciiCase) (old new : BuilderState) (t rest : List ℕ) : Type 0 where
  pub first : List ℕ
  pub whole : first ++ rest ≡ t
  pub put : new ≡ appended old (mapped case first)

-- whether a word goes on after the text
abbrev pub word_after : Bool → List ℕ → Bool
word_after in_word [] = in_word
word_after in_word (c ∷ t) = word_after (is_in_word_after in_word c) t

-- of t, what is before the rest is done, and with the rest in the lower case of its context it makes t in lower case
pub record IsLowered (t : List ℕ) (b : BuilderState) (rest : List ℕ) : Type 0 where
  pub done : List ℕ
  pub parts : t ≡ done ++ rest
  pub grown : b ≡ appended (empty_builder InBuffer) b.text
  pub text : b.text ++ lowercase_chars (word_after false done) rest ≡ lowercased t

pub record IsLowering (t : List ℕ) (b : BuilderState) (index : ℕ) : Type 0 where
  pub rest : List ℕ
  pub front : IsLowered t b rest
  pub at : size front.done ≡ index
