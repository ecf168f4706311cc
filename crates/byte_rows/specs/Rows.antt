-- Rows of bytes.
use Rattle.std.specs.Prelude.{ℕ, suc, ◌+◌, ◌*◌, List, [], ◌∷◌, replicate, slice_set}

-- A row with other bytes written over its own, from place i on.
unfoldable pub over : List ℕ → ℕ → List ℕ → List ℕ
over row i [] = row
over row i (b ∷ bytes) = over (slice_set row i b) (suc i) bytes

-- A row of n zero bytes.
unfoldable pub zeros : ℕ → List ℕ
zeros n = replicate n 0

-- A pair is two neighbouring bytes, the low one first.
abbrev pub pair : ℕ → ℕ → ℕ
pair low high = low + 256 * high
