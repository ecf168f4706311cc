-- A counting is a number system whose digits are bytes, as binary and packed decimal are: a base, which bytes are lawful, the value
-- of each, and what it does with bytes.
use Rattle.std.specs.Prelude.{◌≡◌, ℕ, ◌+◌, ◌*◌, ◌<◌, Bool, true, false, List, [], ◌∷◌}

pub record System : Type 0 where
  pub base : ℕ
  pub lawful : ℕ → Bool
  -- The value of a lawful byte, and the lawful byte of a value.
  pub value : ℕ → ℕ
  pub byte : ℕ → ℕ
  -- Whether the counting can be asked to count with a byte.
  pub accepts : ℕ → Bool
  -- A byte and a carry: the sum and the difference of two bytes with a carry or borrow.
  pub plus : ℕ → ℕ → Bool → ℕ × Bool
  pub minus : ℕ → ℕ → Bool → ℕ × Bool
  -- The byte taken from the base less one.
  pub rest : ℕ → ℕ

-- A carry or a borrow as a number.
abbrev pub bit : Bool → ℕ
bit true = 1
bit false = 0

-- What every counting has to show. Nothing is said of bytes that are not lawful.
pub record Laws (s : System) : Type 0 where
  pub two_values : 1 < s.base
  -- A lawful byte is a byte, is accepted, and has a value under the base.
  pub is_byte : (b : ℕ) → s.lawful b ≡ true → b < 256
  pub accepted : (b : ℕ) → s.lawful b ≡ true → s.accepts b ≡ true
  pub below : (b : ℕ) → s.lawful b ≡ true → s.value b < s.base
  -- Each value has one lawful byte; that of 0 is the zero byte.
  pub byte_lawful : (n : ℕ) → n < s.base → s.lawful (s.byte n) ≡ true
  pub byte_value : (n : ℕ) → n < s.base → s.value (s.byte n) ≡ n
  pub value_byte : (b : ℕ) → s.lawful b ≡ true → s.byte (s.value b) ≡ b
  pub zero_byte : s.byte 0 ≡ 0
  -- Sums, differences and rests of lawful bytes are lawful, and right as whole numbers.
  pub plus_lawful : (a b : ℕ) (c : Bool) → s.lawful a ≡ true → s.lawful b ≡ true → s.lawful (s.plus a b c).0 ≡ true
  pub plus_value : (a b : ℕ) (c : Bool) → s.lawful a ≡ true → s.lawful b ≡ true → s.value (s.plus a b c).0 + s.base * bit (s.plus a b c).1 ≡ s.value a + s.value b + bit c
  pub minus_lawful : (a b : ℕ) (c : Bool) → s.lawful a ≡ true → s.lawful b ≡ true → s.lawful (s.minus a b c).0 ≡ true
  pub minus_value : (a b : ℕ) (c : Bool) → s.lawful a ≡ true → s.lawful b ≡ true → s.value (s.minus a b c).0 + s.value b + bit c ≡ s.value a + s.base * bit (s.minus a b c).1
  pub rest_lawful : (a : ℕ) → s.lawful a ≡ true → s.lawful (s.rest a) ≡ true
  pub rest_value : (a : ℕ) → s.lawful a ≡ true → s.value (s.rest a) + s.value a + 1 ≡ s.base

-- The number that a row of bytes stands for, its low byte first.
abbrev pub number : System → List ℕ → ℕ
number s [] = 0
number s (b ∷ bs) = s.value b + s.base * number s bs

-- Each byte of a row is lawful.
abbrev pub Lawful : System → List ℕ → Type 0
Lawful s [] = Unit {0}
Lawful s (b ∷ bs) = (s.lawful b ≡ true) × Lawful s bs
