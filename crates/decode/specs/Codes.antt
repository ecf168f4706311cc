-- The instruction that a code stands for.
use Rattle.std.specs.Prelude.{ℕ, ◌-◌, ◌/◌, ◌%◌, Bool, true, false, cond, Some, None, Option, ◌==◌, nat_lt}
use Rattle.alu.specs.declared.operations.Operation.{Operation}
use Rattle.alu.specs.declared.operations.Operation.TheVariants as op
use Rattle.registers.specs.declared.cpu.rows.Form.{Form}
use Rattle.registers.specs.declared.cpu.rows.Form.TheVariants.{Byte, Multi}
use Rattle.decode.specs.declared.instruction.Base.{Base}
use Rattle.decode.specs.declared.instruction.Base.TheVariants as base
use Rattle.decode.specs.declared.instruction.Mode.{Mode}
use Rattle.decode.specs.declared.instruction.Mode.TheVariants as mode
use Rattle.decode.specs.declared.instruction.Source.{Source}
use Rattle.decode.specs.declared.instruction.Source.TheVariants.{Number, R0}
use Rattle.decode.specs.declared.instruction.Control.{Control}
use Rattle.decode.specs.declared.instruction.Control.TheVariants as control
use Rattle.decode.specs.declared.instruction.Condition.{Condition}
use Rattle.decode.specs.declared.instruction.Condition.TheVariants as when
use Rattle.decode.specs.declared.instruction.Instruction.{Instruction}
use Rattle.decode.specs.declared.instruction.Instruction.TheVariants as instruction

-- One of a few, by number; past the last, the last.
abbrev of2 : {A : Type 0} → ℕ → A → A → A
of2 n a b = cond (n == 0) a b

abbrev of4 : {A : Type 0} → ℕ → A → A → A → A → A
of4 n a b c d = cond (n == 0) a (cond (n == 1) b (cond (n == 2) c d))

abbrev of8 : {A : Type 0} → ℕ → A → A → A → A → A → A → A → A → A
of8 n a b c d e f g h = cond (nat_lt n 4) (of4 n a b c d) (of4 (n - 4) e f g h)

-- A multi form is one more than its byte form.
abbrev pub form_of : ℕ → Form
form_of c = of2 (c % 2) Byte Multi

-- 01 and 41 take R0.
abbrev pub source_of : ℕ → Source
source_of n = cond (n == 1) R0 (Number n)

-- EL, ER, LL, LR.
abbrev pub shift_of : ℕ → Operation
shift_of n = of4 n op.ExtendedLeft op.ExtendedRight op.LogicalLeft op.LogicalRight

-- IC, DC, TC, NC.
abbrev pub count_of : ℕ → Operation
count_of n = of4 n op.Increment op.Decrement op.Negate op.Complement

-- TS, CL, OR, XR; only the last two have an operand.
abbrev pub logic_of : ℕ → Form → Instruction
logic_of n f = of4 n (instruction.Compute op.Test None f) (instruction.Compute op.Clear None f) (instruction.Compute op.Or (Some mode.Register) f) (instruction.Compute op.ExclusiveOr (Some mode.Register) f)

-- BIN, BCD, SAD, DCE, ICE, CLE, RTN, PAD.
abbrev pub control_of : ℕ → Control
control_of n = of8 n control.Binary control.Decimal control.SaveStatus control.DecrementE control.IncrementE control.ClearE control.Return control.RestoreStatus

-- In memory, at the base itself or at the pair found there.
abbrev pub direct : Base → Mode
direct b = mode.Memory b false

abbrev pub indirect : Base → Mode
indirect b = mode.Memory b true

-- The eight operands of LD and ST.
abbrev pub mode_of : ℕ → Mode
mode_of n = of8 n mode.Register (direct base.Register) mode.Immediate (indirect base.Register) (direct base.Literal) (direct base.Indexed) (indirect base.Literal) (indirect base.Indexed)

-- The four operands of CM, AD, SB and AN.
abbrev pub sum_mode_of : ℕ → Mode
sum_mode_of n = of4 n mode.Register mode.Immediate (direct base.Literal) (direct base.Register)

-- The eight operands of PO and PU.
abbrev pub stack_of : Bool → Bool → Mode
stack_of down i = mode.Memory (cond down base.StackDown base.StackUp) i

-- LD and PO load; ST and PU store.
abbrev pub transfer_of : Bool → Mode → Form → Instruction
transfer_of true m f = instruction.Compute op.Load (Some m) f
transfer_of false m f = instruction.Store m f

-- Codes C0 to DF, by row and low three bits: CM, AD, SB in both forms, AN multi; JSB in the first two rows.
abbrev pub sum_of : ℕ → ℕ → Option Instruction
sum_of r k =
    cond (nat_lt k 2) (Some (instruction.Compute op.Compare (Some (sum_mode_of r)) (form_of k)))
    (cond (nat_lt k 4) (Some (instruction.Compute op.Add (Some (sum_mode_of r)) (form_of k)))
    (cond (nat_lt k 6) (Some (instruction.Compute op.Subtract (Some (sum_mode_of r)) (form_of k)))
    (cond (k == 7) (Some (instruction.Compute op.And (Some (sum_mode_of r)) Multi))
    (of4 r (Some (instruction.Call base.Indexed)) (Some (instruction.Call base.Literal)) None None))))

-- JMP JNO JOD JEV JNG JPS JNZ JZR JEN JEZ JNC JCY JLZ JLN JRZ JRN.
abbrev pub condition_of : ℕ → Condition
condition_of n = cond (nat_lt n 8) (of8 n when.Always when.NoOverflow when.Odd when.Even when.Negative when.Positive when.NotZero when.Zero) (of8 (n - 8) when.ENotZero when.EZero when.NoCarry when.Carry when.LeftZero when.LeftNotZero when.RightZero when.RightNotZero)

-- The whole table, row by row.
abbrev pub decoded : ℕ → Option Instruction
decoded c =
    cond (nat_lt c 0x40) (Some (instruction.SetArp (source_of c)))
    (cond (nat_lt c 0x80) (Some (instruction.SetDrp (source_of (c - 0x40))))
    (cond (nat_lt c 0x88) (Some (instruction.Compute (shift_of ((c - 0x80) / 2)) None (form_of c)))
    (cond (nat_lt c 0x90) (Some (instruction.Compute (count_of ((c - 0x88) / 2)) None (form_of c)))
    (cond (nat_lt c 0x98) (Some (logic_of ((c - 0x90) / 2) (form_of c)))
    (cond (nat_lt c 0xA0) (Some (instruction.Control (control_of (c - 0x98))))
    (cond (nat_lt c 0xC0) (Some (transfer_of (c / 2 % 2 == 0) (mode_of ((c - 0xA0) / 4)) (form_of c)))
    (cond (nat_lt c 0xE0) (sum_of ((c - 0xC0) / 8) (c % 8))
    (cond (nat_lt c 0xF0) (Some (transfer_of (c / 4 % 2 == 0) (stack_of (c / 2 % 2 == 1) (c / 8 % 2 == 1)) (form_of c)))
    (Some (instruction.Jump (condition_of (c - 0xF0))))))))))))
