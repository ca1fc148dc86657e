-- What a builder means: its text and its kind.
--     BuilderState       a text, and where the builder keeps it
--     empty_builder k    no text yet
--     appended b u       the builder b, and the text u at its end
--     kind_for n         in the buffer exactly where so many bytes fit there
--     AppendsPrintOf output b c     c is the builder b with what was printed at its end, where the type says what it prints
use Rattle.std.specs.Prelude.{◌≡◌, ℕ, List, [], ◌++◌, Option, IfSome, encode_utf8_all, nat_le, if◌then◌else◌}
use Rattle.std.specs.Fmt.{AppendsText}
use Rattle.std.specs.Str.{chars}
use Rattle.smol_str.specs.declared.buffer.TheConstants.{INLINE_CAP}
use Rattle.smol_str.specs.Text.{size}

-- a builder keeps its text in its own buffer, or on the heap
pub data Kind : Type 0 where
  InBuffer : Kind
  OnHeap : Kind

-- a text, and where the builder keeps it
pub record BuilderState : Type 0 where
  pub text : List ℕ
  pub kind : Kind

-- a builder without text
abbrev pub empty_builder : Kind → BuilderState
empty_builder k = record { text = []; kind = k }

-- in the buffer exactly where so many bytes fit there
abbrev pub kind_for : ℕ → Kind
kind_for n = if nat_le n INLINE_CAP then InBuffer else OnHeap

-- a builder in its buffer stays there while its text fits; one on the heap stays there
abbrev pub kind_with : Kind → List ℕ → Kind
kind_with InBuffer t = kind_for (size t)
kind_with OnHeap t = OnHeap

-- the text at the end of the builder's own
abbrev pub appended : BuilderState → List ℕ → BuilderState
appended b u = record { text = b.text ++ u; kind = kind_with b.kind (b.text ++ u) }

-- said in characters, and in bytes
pub record AppendsPrintOf (output : Option (List ℕ)) (b c : BuilderState) : Type 0 where
  pub text : IfSome output (λ bytes. c ≡ appended b (chars bytes))
  pub bytes : AppendsText (encode_utf8_all b.text) (encode_utf8_all c.text) output
