-- What each operation leaves of a row: the row, the status and E; or the index of a byte that is not decimal.
use Rattle.std.specs.Prelude.{ℕ, ◌+◌, ◌%◌, Bool, true, false, cond, not, List, [], ◌∷◌, Option, Some, None, Ok, Err, Result, ◌==◌, nat_le}
use Rattle.std.specs.Result.{result_and}
use Rattle.registers.specs.Bits.{bit_of}
use Rattle.counting.specs.declared.Link.{Link}
use Rattle.counting.specs.declared.Link.TheVariants as link
use Rattle.counting.specs.Chain.{row_of, carry_of, first_refused}
use Rattle.counting.specs.Decimal.{decimal}
use Rattle.alu.specs.declared.shift.Unit.{Unit as By}
use Rattle.alu.specs.declared.shift.Unit.TheVariants.{Bit, Digit}
use Rattle.alu.specs.declared.logic.Logic.TheVariants as logic
use Rattle.alu.specs.declared.operations.Operation.{Operation}
use Rattle.alu.specs.declared.operations.Operation.TheVariants.{ExtendedLeft, ExtendedRight, LogicalLeft, LogicalRight, Increment, Decrement, Negate, Complement, Test, Clear, Or, ExclusiveOr, And, Load, Compare, Add, Subtract}
use Rattle.alu.specs.declared.operations.Flags.{Flags}
use Rattle.alu.specs.declared.operations.NotDecimal.{NotDecimal}
use Rattle.alu.specs.Logic.{joined_row}
use Rattle.alu.specs.Seen.{last_of, seen}
use Rattle.alu.specs.Shifts.{radix_of, left_row, left_out, right_row, right_out}
use Rattle.alu.specs.Sums.{system_of, overflow_of}

-- What an operation leaves: the data, and status and E.
pub record Done : Type 0 where
  pub row : List ℕ
  pub flags : Flags

abbrev pub done : List ℕ → Flags → Done
done row f = record { row = row; flags = f }

-- What is seen of a row, with this carry and overflow; E stays.
abbrev pub shown : Flags → Bool → Bool → List ℕ → Done
shown f cy ovf row = record { row = row; flags = record f { status = seen f.status cy ovf row } }

-- Neither carry nor overflow: loads, tests, logic, clear and complement.
abbrev pub plain : Flags → List ℕ → Done
plain f row = shown f false false row

-- In decimal nothing overflows.
abbrev pub overflow_in : Bool → Link → List ℕ → List ℕ → Bool
overflow_in d l xs ys = cond d false (overflow_of l xs ys)

-- A sum: CY is the carry out.
abbrev pub summed : Flags → List ℕ → List ℕ → Done
summed f xs ys = shown f (carry_of (system_of f.status.dcm) link.Add xs ys false) (overflow_in f.status.dcm link.Add xs ys) (row_of (system_of f.status.dcm) link.Add xs ys false)

-- A difference: CY is 1 where there was no borrow.
abbrev pub lessened : Link → Flags → List ℕ → List ℕ → Done
lessened l f xs ys = shown f (not (carry_of (system_of f.status.dcm) l xs ys false)) (overflow_in f.status.dcm l xs ys) (row_of (system_of f.status.dcm) l xs ys false)

-- A shift moves by one digit in decimal mode and by one bit in binary.
abbrev pub unit_of : Bool → By
unit_of true = Digit
unit_of false = Bit

-- How many values that has.
abbrev pub radix_in : Flags → ℕ
radix_in f = radix_of (unit_of f.status.dcm)

-- What an extended shift puts in: E in decimal mode and CY in binary. A logical one puts in 0.
abbrev pub incoming_of : Flags → ℕ
incoming_of f = cond f.status.dcm f.e (bit_of f.status.cy)

-- Whether two signs differ.
abbrev pub different : Bool → Bool → Bool
different true b = not b
different false b = b

-- A lost digit goes to E and clears CY and OVF; a lost bit goes to CY.
abbrev pub shifted_out : Flags → List ℕ → ℕ → Bool → Done
shifted_out f row out ovf = record {
  row = row;
  flags = record {
    status = seen f.status (cond f.status.dcm false (out == 1)) (cond f.status.dcm false ovf) row;
    e = cond f.status.dcm out f.e;
  };
}

-- In binary a left shift overflows if the sign changed; a right shift never does.
abbrev pub left_by : Flags → List ℕ → ℕ → Done
left_by f xs c = shifted_out f (left_row (radix_in f) xs c) (left_out (radix_in f) xs c) (different (nat_le 128 (last_of xs)) (nat_le 128 (last_of (left_row (radix_in f) xs c))))

abbrev pub left_done : Flags → List ℕ → ℕ → Done
left_done f xs incoming = left_by f xs (incoming % radix_in f)

-- A right shift puts in at the high end.
abbrev pub right_by : Flags → List ℕ → ℕ → Done
right_by f xs c = shifted_out f (right_row (radix_in f) xs c) (right_out (radix_in f) xs c) false

abbrev pub right_done : Flags → List ℕ → ℕ → Done
right_done f xs incoming = right_by f xs (incoming % radix_in f)

-- The index of a byte that is not decimal: 0 to 7 in the data, 8 to 15 in the operand. A row has at most eight bytes.
abbrev pub index_from : ℕ → Option ℕ → Result (Unit {0}) NotDecimal
index_from from None = Ok tt
index_from from (Some i) = Err (record { index = from + i % 8 })

-- Digits are checked in decimal mode only.
abbrev pub digits_of : Bool → ℕ → List ℕ → Result (Unit {0}) NotDecimal
digits_of false from row = Ok tt
digits_of true from row = index_from from (first_refused decimal row)

-- Data before operand.
abbrev pub both_digits : Bool → List ℕ → List ℕ → Result (Unit {0}) NotDecimal
both_digits d xs ys = result_and (digits_of d 0 xs) (digits_of d 8 ys)

-- IC, DC, TC and NC check the data's digits; CM, AD and SB check the operand's too; the others take any bytes.
abbrev pub checked : Operation → Bool → List ℕ → List ℕ → Result (Unit {0}) NotDecimal
checked Increment d xs ys = digits_of d 0 xs
checked Decrement d xs ys = digits_of d 0 xs
checked Negate d xs ys = digits_of d 0 xs
checked Complement d xs ys = digits_of d 0 xs
checked Compare d xs ys = both_digits d xs ys
checked Add d xs ys = both_digits d xs ys
checked Subtract d xs ys = both_digits d xs ys
checked ExtendedLeft d xs ys = Ok tt
checked ExtendedRight d xs ys = Ok tt
checked LogicalLeft d xs ys = Ok tt
checked LogicalRight d xs ys = Ok tt
checked Test d xs ys = Ok tt
checked Clear d xs ys = Ok tt
checked Or d xs ys = Ok tt
checked ExclusiveOr d xs ys = Ok tt
checked And d xs ys = Ok tt
checked Load d xs ys = Ok tt

-- EL, ER, LL, LR, IC, DC, TC, NC, TS, CL, OR, XR, AN, LD, CM, AD, SB, in this order.
abbrev pub worked : Operation → Flags → List ℕ → List ℕ → Done
worked ExtendedLeft f xs ys = left_done f xs (incoming_of f)
worked ExtendedRight f xs ys = right_done f xs (incoming_of f)
worked LogicalLeft f xs ys = left_done f xs 0
worked LogicalRight f xs ys = right_done f xs 0
worked Increment f xs ys = summed f xs (1 ∷ [])
worked Decrement f xs ys = lessened link.Subtract f xs (1 ∷ [])
worked Negate f xs ys = lessened link.Negate f xs []
worked Complement f xs ys = plain f (row_of (system_of f.status.dcm) link.Complement xs [] false)
worked Test f xs ys = plain f xs
worked Clear f xs ys = plain f (joined_row logic.Replace xs [])
worked Or f xs ys = plain f (joined_row logic.Or xs ys)
worked ExclusiveOr f xs ys = plain f (joined_row logic.ExclusiveOr xs ys)
worked And f xs ys = plain f (joined_row logic.And xs ys)
worked Load f xs ys = plain f (joined_row logic.Replace xs ys)
worked Compare f xs ys = lessened link.Subtract f xs ys
worked Add f xs ys = summed f xs ys
worked Subtract f xs ys = lessened link.Subtract f xs ys

-- An operation is refused for its digits, or works.
abbrev pub operated : Operation → Flags → List ℕ → List ℕ → Result Done NotDecimal
operated o f xs ys = result_and (checked o f.status.dcm xs ys) (Ok (worked o f xs ys))

-- A row with what was told of it.
abbrev pub left : List ℕ → Result Flags NotDecimal → Result Done NotDecimal
left row (Ok f) = Ok (done row f)
left row (Err n) = Err n

-- A refused operation leaves the row as it was.
abbrev pub row_after : List ℕ → Result Done NotDecimal → List ℕ
row_after xs (Ok d) = d.row
row_after xs (Err n) = xs
