-- Shifts of a row, its low byte first, by one bit (radix 2) or one digit (radix 16).
use Rattle.std.specs.Prelude.{ℕ, ◌+◌, ◌*◌, ◌/◌, ◌%◌, List, [], ◌∷◌}
use Rattle.alu.specs.declared.shift.Unit.{Unit as By}
use Rattle.alu.specs.declared.shift.Unit.TheVariants.{Bit, Digit}

-- A bit has 2 values, a digit of four bits 16.
abbrev pub radix_of : By → ℕ
radix_of Bit = 2
radix_of Digit = 16

-- Up, from the low byte: each byte takes in what the one below lost.
abbrev pub left_row : ℕ → List ℕ → ℕ → List ℕ
left_row k [] c = []
left_row k (x ∷ xs) c = ((x * k + c) % 256) ∷ left_row k xs ((x * k + c) / 256)

-- What is lost above the high byte.
abbrev pub left_out : ℕ → List ℕ → ℕ → ℕ
left_out k [] c = c
left_out k (x ∷ xs) c = left_out k xs ((x * k + c) / 256)

-- Down, from the high byte: each byte takes in what the one above lost.
abbrev pub right_out : ℕ → List ℕ → ℕ → ℕ
right_out k [] c = c
right_out k (x ∷ xs) c = (right_out k xs c * 256 + x) % k

abbrev pub right_row : ℕ → List ℕ → ℕ → List ℕ
right_row k [] c = []
right_row k (x ∷ xs) c = ((right_out k xs c * 256 + x) / k) ∷ right_row k xs c
