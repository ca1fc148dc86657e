-- What the private arms of a builder mean.
use Rattle.std.specs.Prelude.{ℕ, List, String}
use Rattle.std.specs.Str.{chars}
use Rattle.std.specs.declared.alloc.Global.{Global}
use Rattle.std.specs.String.{string_bytes}
use Rattle.smol_str.specs.declared.builder.BuilderRepr.{BuilderRepr}
use Rattle.smol_str.specs.declared.builder.BuilderRepr.TheVariants.{Inline, Heap}
use Rattle.smol_str.specs.Text.{IsShort}
use Rattle.smol_str.specs.BuilderState.{BuilderState, Kind, InBuffer, OnHeap}

-- the text that an arm holds
abbrev pub builder_text : BuilderRepr → List ℕ
builder_text (Inline t) = t
builder_text (Heap s) = chars (string_bytes s)

-- the kind that an arm is
abbrev pub builder_kind : BuilderRepr → Kind
builder_kind (Inline t) = InBuffer
builder_kind (Heap s) = OnHeap

-- an inline text is short; a heap text may have any size
abbrev pub IsSoundBuilder : BuilderRepr → Type 0
IsSoundBuilder (Inline t) = IsShort t
IsSoundBuilder (Heap s) = Unit {0}

-- a builder that keeps its text in this string
abbrev pub heap_builder : String Global → BuilderState
heap_builder s = record { text = chars (string_bytes s); kind = OnHeap }
