-- Setting and clearing stains.
use Rattle.std.specs.Prelude.{ℕ, ◌-◌, ◌/◌, ◌%◌, ◌^◌, Bool, true, false, List, bit_and, bit_or, slice_index, slice_set}
use Rattle.byte_rows.specs.Rows.{zeros}

-- Bit k of a byte is set or cleared.
abbrev pub with_bit : Bool → ℕ → ℕ → ℕ
with_bit true b k = bit_or b (2 ^ k)
with_bit false b k = bit_and b (255 - 2 ^ k)

-- The stain of address a is bit a mod 8 of byte a/8.
abbrev pub mark : Bool → ℕ → List ℕ → List ℕ
mark stain a sheet = slice_set sheet (a / 8) (with_bit stain (slice_index sheet (a / 8)) (a % 8))

-- The sheet has a bit for each of the 65,536 addresses; when an exchange begins none is set.
unfoldable pub blank : List ℕ
blank = zeros 8192
