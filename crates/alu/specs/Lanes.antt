-- Decimal bytes as whole numbers below 100, worked on in binary.
use Rattle.std.specs.Prelude.{ℕ, ◌+◌, ◌-◌, Bool, true, false, cond, ◌||◌, ◌&&◌, nat_le, nat_lt}
use Rattle.std.specs.List.{list_all}
use Rattle.byte_rows.specs.Short.{low_bytes}
use Rattle.byte_rows.specs.declared.row.Row.{Row}
use Rattle.counting.specs.System.{bit}
use Rattle.counting.specs.Decimal.{decimal, two_digits}

-- A number below twice k: whether it reaches k, and what is above k, or the number itself.
abbrev pub reached : ℕ → ℕ → ℕ
reached k b = bit (nat_le k b)

abbrev pub rest : ℕ → ℕ → ℕ
rest k b = cond (nat_le k b) (b - k) b

-- A value raised so that a sum passes a byte where two values pass 99.
abbrev pub raised : ℕ → ℕ
raised b = b + 156

-- What a sum of a raised value and a value, or a difference of two values, leaves in a byte, and the value that it stands for.
abbrev pub is_outcome : ℕ → Bool
is_outcome b = nat_lt b 100 || (nat_le 156 b && nat_lt b 256)

abbrev pub lowered : ℕ → ℕ
lowered b = cond (nat_le 128 b) (b - 156) b

abbrev pub decimal_of : ℕ → ℕ
decimal_of b = decimal.byte (lowered b)

-- All eight bytes of a word.
abbrev pub all_bytes : (ℕ → Bool) → ℕ → Bool
all_bytes p w = list_all p (low_bytes 8 w)

-- In decimal mode a row's bytes are two digits each.
abbrev pub countable : Bool → Row → Bool
countable true r = all_bytes two_digits r.word
countable false r = true
