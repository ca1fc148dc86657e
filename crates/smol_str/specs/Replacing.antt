-- A replacement that is not yet finished: a builder, and a byte index in the text.
use Rattle.std.specs.Prelude.{◌≡◌, ◌++◌, ℕ, List}
use Rattle.smol_str.specs.Text.{size}
use Rattle.smol_str.specs.Replace.{replaced}
use Rattle.smol_str.specs.BuilderState.{BuilderState, InBuffer, empty_builder, appended}

-- of t, what is before the index is done, and m more matches in what follows it make t with n matches replaced
pub record IsReplacing (t p w : List ℕ) (n m : ℕ) (b : BuilderState) (index : ℕ) : Type 0 where
  pub done : List ℕ
  pub rest : List ℕ
  pub parts : t ≡ done ++ rest
  pub at : size done ≡ index
  pub grown : b ≡ appended (empty_builder InBuffer) b.text
  pub text : b.text ++ replaced rest p w m ≡ replaced t p w n
