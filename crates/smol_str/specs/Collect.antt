-- What came of drawing the items of an iterator, one after another, in std's words for the runs of an iterator; `texts`
-- says the text of a list of items.
--     Collected m v          the iterator came to its end, and v, which means m v, is the value of the text of all items
--     Outgrown               items came whose text is not short: only then may collecting be refused memory
--     AppendedAll old new    the iterator came to its end, and the text of all items was appended
--     StoppedAt old new      of the items that came, the text of all but the last was appended; with the last the builder
--                            would be on the heap
use Rattle.std.specs.Prelude.{◌≡◌, ℕ, ◌<◌, List, Option, length}
use Rattle.std.specs.Iterator.Runs.{SomeRun, WholeRun}
use Rattle.smol_str.specs.Text.{IsShort}
use Rattle.smol_str.specs.Meaning.{Meaning, IsValueOf}
use Rattle.smol_str.specs.Cut.{but_last}
use Rattle.smol_str.specs.BuilderState.{BuilderState, OnHeap, appended}

module _ {S A : Type 0} (texts : List A → List ℕ) (steps : S → Option A → S → Type 0) (s : S) where
  -- the iterator gave these items and no more, and v, which means m v, is the value of their text
  unfoldable pub Collected : {V : Type 0} → (V → Meaning) → V → Type 0
  Collected m v = WholeRun steps s (λ run. IsValueOf (texts run.items) (m v))

  -- the iterator gave items whose text is not short
  unfoldable pub Outgrown : Type 0
  Outgrown = SomeRun steps s (λ run. ¬ (IsShort (texts run.items)))

  -- the iterator gave these items and no more, and their text was appended
  unfoldable pub AppendedAll : BuilderState → BuilderState → Type 0
  AppendedAll old new = WholeRun steps s (λ run. new ≡ appended old (texts run.items))

  -- the last item that came would have put the builder on the heap; the text of those before it was appended
  unfoldable pub StoppedAt : BuilderState → BuilderState → Type 0
  StoppedAt old new = SomeRun steps s (λ run. (0 < length run.items)
      × (new ≡ appended old (texts (but_last run.items))) × ((appended old (texts run.items)).kind ≡ OnHeap))
