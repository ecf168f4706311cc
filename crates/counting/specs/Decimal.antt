-- Bytes of two decimal digits.
use Rattle.std.specs.Prelude.{ℕ, ◌+◌, ◌-◌, ◌*◌, ◌/◌, ◌%◌, Bool, cond, ◌&&◌, nat_lt}
use Rattle.counting.specs.System.{System, bit}

-- Two digits and a carry: a sum above 9 loses 10 and carries. A digit has four bits.
abbrev pub digit_sum : ℕ → ℕ → Bool → ℕ × Bool
digit_sum a b c = (cond (nat_lt 9 (a + b + bit c)) ((a + b + bit c - 10) % 16) (a + b + bit c), nat_lt 9 (a + b + bit c))

-- A difference below 0 gains 10 and borrows.
abbrev pub digit_difference : ℕ → ℕ → Bool → ℕ × Bool
digit_difference a b c = (cond (nat_lt a (b + bit c)) ((a + 26 - (b + bit c)) % 16) (a - (b + bit c)), nat_lt a (b + bit c))

-- A digit operation on both digits of a byte, the low one first.
abbrev pub on_digits : (ℕ → ℕ → Bool → ℕ × Bool) → ℕ → ℕ → Bool → ℕ × Bool
on_digits f a b c = (16 * (f (a / 16) (b / 16) (f (a % 16) (b % 16) c).1).0 + (f (a % 16) (b % 16) c).0, (f (a / 16) (b / 16) (f (a % 16) (b % 16) c).1).1)

-- Both digits are 0 to 9.
abbrev pub two_digits : ℕ → Bool
two_digits b = nat_lt (b / 16) 10 && nat_lt (b % 16) 10

abbrev pub decimal : System
decimal = record {
  base = 100;
  lawful = two_digits;
  value = λ b. 10 * (b / 16) + b % 16;
  byte = λ n. 16 * (n / 10) + n % 10;
  accepts = two_digits;
  plus = on_digits digit_sum;
  minus = on_digits digit_difference;
  rest = λ a. 16 * ((25 - a / 16) % 16) + (25 - a % 16) % 16;
}
