-- The bytes of a row of up to eight.
use Rattle.std.specs.Prelude.{ℕ, zero, suc, ◌/◌, ◌%◌, List, [], ◌∷◌}
use Rattle.byte_rows.specs.declared.row.Row.{Row}

-- The n lowest bytes of a number, the lowest first.
unfoldable pub low_bytes : ℕ → ℕ → List ℕ
low_bytes zero w = []
low_bytes (suc n) w = w % 256 ∷ low_bytes n (w / 256)

-- The bytes of a row: as many as its length, the lowest of its word first.
abbrev pub bytes_of : Row → List ℕ
bytes_of r = low_bytes r.len r.word
