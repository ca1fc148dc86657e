-- Bytes as a number, and bytes written among others.
use Rattle.std.specs.Prelude.{ℕ, zero, suc, ◌+◌, ◌*◌, ◌^◌, List, ◌++◌, length, take, drop, get_or}

-- the number that `k` bytes from `at` on are, the first the lowest; past the end they are zeros
unfoldable pub word : ℕ → List ℕ → ℕ → ℕ
word zero bytes at = 0
word (suc k) bytes at = word k bytes at + 256 ^ k * get_or bytes (at + k) 0

-- the bytes are at `start`, and the others are as before
abbrev pub put_at : List ℕ → ℕ → List ℕ → List ℕ
put_at others start bytes = take start others ++ (bytes ++ drop (start + length bytes) others)
