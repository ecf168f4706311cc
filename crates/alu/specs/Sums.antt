-- Sums and differences in the counting of the mode.
use Rattle.std.specs.Prelude.{ℕ, Bool, true, false, not, List, length, pos, ◌+ℤ◌, ◌-ℤ◌}
use Rattle.counting.specs.declared.Link.{Link}
use Rattle.counting.specs.declared.Link.TheVariants.{Add, Subtract, Negate, Complement}
use Rattle.counting.specs.Binary.{binary}
use Rattle.counting.specs.Decimal.{decimal}
use Rattle.counting.specs.System.{System}
use Rattle.alu.specs.Seen.{sized}
use Rattle.alu.specs.Signed.{signed, fits}

-- Decimal mode counts in decimal.
abbrev pub system_of : Bool → System
system_of true = decimal
system_of false = binary

-- In binary a sum or difference overflows when the signed result does not fit the bytes. A complement never does.
abbrev pub overflow_of : Link → List ℕ → List ℕ → Bool
overflow_of Add xs ys = not (fits (length xs) (signed xs +ℤ signed (sized (length xs) ys)))
overflow_of Subtract xs ys = not (fits (length xs) (signed xs -ℤ signed (sized (length xs) ys)))
overflow_of Negate xs ys = not (fits (length xs) (pos 0 -ℤ signed xs))
overflow_of Complement xs ys = false

-- How the code tells: two numbers of one sign whose sum has the other.
abbrev pub turned : Bool → Bool → Bool → Bool
turned true true r = not r
turned true false r = false
turned false true r = false
turned false false r = r

-- Subtracting adds the number of the other sign; negating adds that of the data to 0.
abbrev pub signs_of : Link → Bool → Bool → Bool → Bool
signs_of Add a b r = turned a b r
signs_of Subtract a b r = turned a (not b) r
signs_of Negate a b r = turned false (not a) r
signs_of Complement a b r = false
