-- Eight addresses that lie in line, none past 65,535.
use Rattle.std.specs.Prelude.{◌≡◌, ℕ, ◌+◌, ◌<◌, ◌≤◌, List, length, Ok, slice_index}
use Rattle.bus.specs.Meaning.{Meaning}

-- All eight bytes are read, and are these.
abbrev pub ReadsEight : Meaning → ℕ → List ℕ → Type 0
ReadsEight m a bytes = (length bytes ≡ 8) × (a + 8 ≤ 65536) × ((i : ℕ) → i < 8 → m.reads (a + i) ≡ Ok (slice_index bytes i))

-- A store to any of the eight is taken.
abbrev pub TakesEight : Meaning → ℕ → Type 0
TakesEight m a = (a + 8 ≤ 65536) × ((i : ℕ) → i < 8 → m.takes (a + i) ≡ Ok tt)
