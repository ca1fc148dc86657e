-- What the private arms of a value mean.
use Rattle.std.specs.Prelude.{ℕ, List}
use Rattle.std.specs.Str.{chars, IsUtf8}
use Rattle.smol_str.specs.Shared.{shared_bytes}
use Rattle.smol_str.specs.declared.value.place.Place as place
use Rattle.smol_str.specs.declared.value.place.Place.TheVariants as at
use Rattle.smol_str.specs.declared.value.Repr.{Repr}
use Rattle.smol_str.specs.declared.value.Repr.TheVariants.{Inline, Static, Heap}
use Rattle.smol_str.specs.Text.{IsShort, IsResident}

-- the text that an arm holds
abbrev pub repr_text : Repr → List ℕ
repr_text (Inline t) = t
repr_text (Static s) = chars s.now
repr_text (Heap h) = chars (shared_bytes h)

-- the place that an arm is
abbrev pub repr_place : Repr → place.Place
repr_place (Inline t) = at.Inline
repr_place (Static s) = at.Static
repr_place (Heap h) = at.Heap

-- an inline text is short, static bytes are UTF-8, and a heap text is not resident
abbrev pub IsSound : Repr → Type 0
IsSound (Inline t) = IsShort t
IsSound (Static s) = IsUtf8 s.now
IsSound (Heap h) = ¬ (IsResident (chars (shared_bytes h)))
