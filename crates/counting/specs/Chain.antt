-- A chain works through a row of bytes, the low one first, and hands the carry on: what it comes to, byte by byte and in whole numbers.
use Rattle.std.specs.Prelude.{◌≡◌, ℕ, ◌+◌, ◌-◌, ◌/◌, ◌%◌, ◌^◌, Bool, not, List, [], ◌∷◌, length, Option, position, drop, slice_index, ◌==◌, nat_lt}
use Rattle.counting.specs.declared.Link.{Link}
use Rattle.counting.specs.declared.Link.TheVariants.{Add, Subtract, Negate, Complement}
use Rattle.counting.specs.System.{System, bit, number, Lawful}

-- What a link does with a byte of the data, one of the operand, and the carry.
abbrev pub linked : System → Link → ℕ → ℕ → Bool → ℕ × Bool
linked s Add a b c = s.plus a b c
linked s Subtract a b c = s.minus a b c
linked s Negate a b c = s.minus 0 a c
linked s Complement a b c = (s.rest a, c)

-- An operand that has no more bytes goes on with zero bytes.
abbrev pub first : List ℕ → ℕ
first bytes = slice_index bytes 0

abbrev pub others : List ℕ → List ℕ
others bytes = drop 1 bytes

-- The bytes that a chain leaves, from the low byte up.
abbrev pub row_of : System → Link → List ℕ → List ℕ → Bool → List ℕ
row_of s l [] ys c = []
row_of s l (x ∷ xs) ys c = (linked s l x (first ys) c).0 ∷ row_of s l xs (others ys) (linked s l x (first ys) c).1

-- The carry out of the last byte.
abbrev pub carry_of : System → Link → List ℕ → List ℕ → Bool → Bool
carry_of s l [] ys c = c
carry_of s l (x ∷ xs) ys c = carry_of s l xs (others ys) (linked s l x (first ys) c).1

-- With a, b the numbers of data and operand, p the base to the power of the data's length, and c the carry in:
-- the number out, and the carry out.
abbrev pub Numbers : Link → ℕ → ℕ → ℕ → Bool → ℕ → Bool → Type 0
Numbers Add p a b c out d = (out ≡ (a + b + bit c) % p) × (bit d ≡ (a + b + bit c) / p)
Numbers Subtract p a b c out d = (out ≡ (a + p - (b + bit c)) % p) × (d ≡ nat_lt a (b + bit c))
Numbers Negate p a b c out d = (out ≡ (p - (a + bit c)) % p) × (d ≡ nat_lt 0 (a + bit c))
Numbers Complement p a b c out d = (out ≡ p - 1 - a) × (d ≡ c)

-- The bytes stay lawful, and their number is right.
abbrev pub Whole : System → Link → List ℕ → List ℕ → Bool → List ℕ → Bool → Type 0
Whole s l xs ys c out d = Lawful s out × Numbers l (s.base ^ length xs) (number s xs) (number s ys) c (number s out) d

-- The operand that stands for 1.
abbrev pub one : System → List ℕ
one s = s.byte 1 ∷ []

-- A number below p goes up or down by 1, around p; the carry says that it went around.
abbrev pub Counts : Link → ℕ → ℕ → ℕ → Bool → Type 0
Counts Add p a out d = (out ≡ (a + 1) % p) × (d ≡ (a + 1 == p))
Counts Subtract p a out d = (out ≡ (a + p - 1) % p) × (d ≡ (a == 0))
Counts Negate p a out d = Unit {0}
Counts Complement p a out d = Unit {0}

-- The place of the first byte that is not accepted.
abbrev pub first_refused : System → List ℕ → Option ℕ
first_refused s bytes = position (λ b. not (s.accepts b)) bytes
