-- Worked examples, over the definitions that the operations' contracts cite. Rows have their low byte first.
use Rattle.std.specs.Prelude.{◌≡◌, ℕ, Bool, true, false, List, [], ◌∷◌, Ok, Result}
use Rattle.registers.specs.declared.status.Status.{Status}
use Rattle.registers.specs.Bits.{clear}
use Rattle.alu.specs.declared.operations.Operation.TheVariants.{ExtendedLeft, LogicalLeft, Increment, Add, Subtract}
use Rattle.alu.specs.declared.operations.Flags.{Flags}
use Rattle.alu.specs.declared.operations.NotDecimal.{NotDecimal}
use Rattle.alu.specs.Operations.{Done, operated}

-- The status in decimal mode, all else clear.
abbrev in_decimal : Status
in_decimal = record { dcm = true; cy = false; ovf = false; lsb = false; msb = false; z = false; ldz = false; rdz = false }

abbrev flags : Status → ℕ → Flags
flags s e = record { status = s; e = e }

-- An operation on a row and an operand leaves this row, CY, OVF, MSB, Z and E.
abbrev Gives : Result Done NotDecimal → List ℕ → Bool → Bool → Bool → Bool → ℕ → Type 0
Gives r row cy ovf msb z e = (s : Status) × (r ≡ Ok (record { row = row; flags = flags s e })) × (s.cy ≡ cy) × (s.ovf ≡ ovf) × (s.msb ≡ msb) × (s.z ≡ z)

-- The examples, each with what it shows.
pub record WorkedExamples : Type 0 where
  -- ICM of FF FF is 00 00 with CY 1, Z 1, OVF 0.
  pub increment_wraps : Gives (operated Increment (flags clear 0) (0xFF ∷ 0xFF ∷ []) []) (0 ∷ 0 ∷ []) true false false true 0
  -- ICB of 7F is 80 with OVF 1, so that MSB equals OVF and JPS jumps.
  pub increment_overflows : Gives (operated Increment (flags clear 0) (0x7F ∷ []) []) (0x80 ∷ []) false true true false 0
  -- Decimal 99 09 plus 01 00 is 00 10 with CY 0.
  pub decimal_sum : Gives (operated Add (flags in_decimal 0) (0x99 ∷ 0x09 ∷ []) (0x01 ∷ 0x00 ∷ [])) (0x00 ∷ 0x10 ∷ []) false false false false 0
  -- Decimal 00 less 01 is 99 with CY 0.
  pub decimal_difference : Gives (operated Subtract (flags in_decimal 0) (0x00 ∷ []) (0x01 ∷ [])) (0x99 ∷ []) false false true false 0
  -- Decimal 47 with E 3: LLB gives 70, ELB gives 73, and both leave E 4.
  pub logical_left : Gives (operated LogicalLeft (flags in_decimal 3) (0x47 ∷ []) []) (0x70 ∷ []) false false false false 4
  pub extended_left : Gives (operated ExtendedLeft (flags in_decimal 3) (0x47 ∷ []) []) (0x73 ∷ []) false false false false 4
