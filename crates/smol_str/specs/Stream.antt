-- What is left of a reader's known bytes, and what a writer's have become, after single reads and writes. `Appends`
-- and `Consumes` of std say it of a whole list.
--     Gave remaining old new bytes         the reader gave the bytes, where `remaining` says what a reader has left
--     AppendsBeginning held holds bytes    the writer took a beginning of the bytes, but not all of them
--     GaveAll input left                   the reader gave all that it had
--     GaveAllBelow input left n            the reader gave all that it had, fewer than n bytes
--     GaveBelow input left n               it gave fewer than n bytes, and may have more
--     GaveUpTo input left n                it gave at least one byte, and n at the most
--     AfterReadFault limit input left      what it gave where not all bytes were read up to a limit
use Rattle.std.specs.Prelude.{◌≡◌, ℕ, ◌<◌, ◌≤◌, List, ◌++◌, length, Option}
use Rattle.std.specs.Io.KnownBytes.{Appends, Consumes, IsAtEnd}
use Rattle.smol_str.specs.declared.stream.ReadFault.{ReadFault}
use Rattle.smol_str.specs.declared.stream.ReadFault.TheVariants.{OutOfMemory, Io}

-- the bytes, and no more
abbrev pub Gave : {R : Type 0} → (R → Option (List ℕ)) → R → R → List ℕ → Type 0
Gave remaining old new bytes = Consumes (remaining old) (remaining new) bytes

-- a beginning of the bytes was appended, perhaps none, and at least one byte is missing
abbrev pub AppendsBeginning : Option (List ℕ) → Option (List ℕ) → List ℕ → Type 0
AppendsBeginning held holds bytes =
    (front : List ℕ) × (rest : List ℕ) × (bytes ≡ front ++ rest) × (0 < length rest) × Appends held holds front

-- the reader gave some bytes, and has no more
abbrev pub GaveAll : Option (List ℕ) → Option (List ℕ) → Type 0
GaveAll input left = (bytes : List ℕ) × Consumes input left bytes × IsAtEnd left

-- the reader gave fewer than n bytes, and has no more
abbrev pub GaveAllBelow : Option (List ℕ) → Option (List ℕ) → ℕ → Type 0
GaveAllBelow input left n = (bytes : List ℕ) × (length bytes < n) × Consumes input left bytes × IsAtEnd left

-- the reader gave fewer than n bytes
abbrev pub GaveBelow : Option (List ℕ) → Option (List ℕ) → ℕ → Type 0
GaveBelow input left n = (bytes : List ℕ) × (length bytes < n) × Consumes input left bytes

-- the reader gave at least one byte, and n at the most
abbrev pub GaveUpTo : Option (List ℕ) → Option (List ℕ) → ℕ → Type 0
GaveUpTo input left n = (bytes : List ℕ) × (0 < length bytes) × (length bytes ≤ n) × Consumes input left bytes

-- out of memory: bytes came, and there was no room for them; io: the reader failed before it gave as many as the limit
abbrev pub AfterReadFault : ℕ → Option (List ℕ) → Option (List ℕ) → ReadFault → Type 0
AfterReadFault limit input left OutOfMemory = GaveUpTo input left limit
AfterReadFault limit input left (Io e) = GaveBelow input left limit
