-- Bytes as whole numbers below 256.
use Rattle.std.specs.Prelude.{◌+◌, ◌-◌, ◌%◌, true, nat_le, nat_lt}
use Rattle.counting.specs.System.{System, bit}

abbrev pub binary : System
binary = record {
  base = 256;
  lawful = λ b. nat_lt b 256;
  value = λ b. b;
  byte = λ n. n;
  accepts = λ _. true;
  plus = λ a b c. ((a + b + bit c) % 256, nat_le 256 (a + b + bit c));
  minus = λ a b c. ((a + 256 - (b + bit c)) % 256, nat_lt a (b + bit c));
  rest = λ a. 255 - a;
}
