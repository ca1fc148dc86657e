-- The text is the first one with the characters so far.
use Rattle.smol_str.proofs.Common.{◌≡◌, appended}
use Rattle.smol_str.specs.BuilderArms.{heap_builder}
use Rattle.smol_str.proofs.builder.chars.extend_heap.Given as goal

abbrev pub invariant-loop-character : goal.invariant-loop-character
invariant-loop-character g l = heap_builder l.heap ≡ appended (heap_builder l.fn.heap) l.yielded
