-- The text of a step; that of a list of steps is `joined step_text`.
use Rattle.std.specs.Prelude.{ℕ, List}
use denote.Ref.{Bor}
use Rattle.smol_str.specs.declared.collect.steps.Step.{Step}
use Rattle.smol_str.specs.declared.collect.steps.Step.TheVariants.{Push, PushStr}
use Rattle.smol_str.specs.Joined.{char_text, string_text}

-- the text that a step appends
abbrev pub step_text : Step → List ℕ
step_text (Push c) = char_text c
step_text (PushStr s) = string_text s

-- that of a borrowed step
abbrev pub step_ref_text : Bor Step → List ℕ
step_ref_text s = step_text s.now
