-- Signed numbers in two's complement.
use Rattle.std.specs.Prelude.{ℕ, ◌*◌, ◌^◌, Bool, cond, ◌&&◌, List, length, ℤ, pos, ◌+ℤ◌, ◌-ℤ◌, neg_ℤ, int_le, int_lt, nat_lt}
use Rattle.counting.specs.Binary.{binary}
use Rattle.counting.specs.System.{number}

-- Of the p numbers of a length, the lower half stand for themselves, and the upper half for p less.
abbrev pub worth : ℕ → ℕ → ℤ
worth p a = cond (nat_lt (2 * a) p) (pos a) (pos a -ℤ pos p)

-- A row of bytes as a signed number.
abbrev pub signed : List ℕ → ℤ
signed bytes = worth (256 ^ length bytes) (number binary bytes)

-- From minus half of p on, and below half of p.
abbrev pub within : ℕ → ℤ → Bool
within p z = int_le (neg_ℤ (pos p)) (z +ℤ z) && int_lt (z +ℤ z) (pos p)

-- A signed number fits n bytes.
abbrev pub fits : ℕ → ℤ → Bool
fits n z = within (256 ^ n) z
