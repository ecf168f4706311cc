-- What an instruction may change of the processor; all else it leaves as it was.
use Rattle.std.specs.Prelude.{◌≡◌, ℕ, ◌-◌, ◌+◌, ◌%◌, Bool, true, false, ◌&&◌, ◌||◌, Ok, Some, Option, nat_lt}
use Rattle.registers.specs.State.{State, pc_of}
use Rattle.registers.specs.Rows.{register_at, span_of}
use Rattle.bus.specs.Meaning.{Meaning}
use Rattle.alu.specs.declared.operations.Operation.{Operation}
use Rattle.alu.specs.declared.operations.Operation.TheVariants.{ExtendedLeft, ExtendedRight, LogicalLeft, LogicalRight}
use Rattle.reading.specs.Trees.{wrap, came}
use Rattle.decode.specs.declared.instruction.Base.{Base}
use Rattle.decode.specs.declared.instruction.Base.TheVariants as base
use Rattle.decode.specs.declared.instruction.Mode.{Mode}
use Rattle.decode.specs.declared.instruction.Mode.TheVariants.{Register as InRegisters, Memory}
use Rattle.decode.specs.declared.instruction.Control.TheVariants.{Binary, Decimal, SaveStatus, DecrementE, IncrementE, ClearE, Return, RestoreStatus}
use Rattle.decode.specs.declared.instruction.Instruction.{Instruction}
use Rattle.decode.specs.declared.instruction.Instruction.TheVariants.{SetArp, SetDrp, Compute, Store, Control as Alone, Call}
use Rattle.decode.specs.Codes.{decoded}
use Rattle.execute.specs.Instructions.{keeps, plan_tree}
use Rattle.execute.specs.Plans.{Plan}
use Rattle.laws.specs.declared.part.Part.{Part}
use Rattle.laws.specs.declared.part.Part.TheVariants.{Register, Arp, Drp, Mode as ModePart, Conditions, E}

-- x is one of the n registers from k on. Register numbers wrap modulo 64.
abbrev pub in_row : ℕ → ℕ → ℕ → Bool
in_row k n x = nat_lt ((x % 64 + (64 - k % 64)) % 64) n

-- Whether register x is one of the pair that the base moves: R2-R3, or the pair at ARP.
abbrev pub base_moves : Base → ℕ → ℕ → Bool
base_moves base.Register arp x = false
base_moves base.Literal arp x = false
base_moves base.Indexed arp x = in_row 2 2 x
base_moves base.StackUp arp x = in_row arp 2 x
base_moves base.StackDown arp x = in_row arp 2 x

-- A mode moves the pair that its base moves.
abbrev pub mode_moves : Option Mode → ℕ → ℕ → Bool
mode_moves (Some (Memory b i)) arp x = base_moves b arp x
mode_moves m arp x = false

-- The registers that an instruction names: the data of a computation that keeps its result, the registers that a store goes to,
-- the pair moved on the way, and the return pointer.
abbrev pub names : Instruction → ℕ → ℕ → ℕ → Bool
names (Compute o m f) arp drp x = (keeps o && in_row drp (span_of f drp) x) || mode_moves m arp x
names (Store InRegisters f) arp drp x = in_row arp (span_of f drp) x
names (Store m f) arp drp x = mode_moves (Some m) arp x
names (Alone SaveStatus) arp drp x = in_row 6 2 x
names (Alone Return) arp drp x = in_row 6 2 x
names (Alone RestoreStatus) arp drp x = in_row 6 2 x
names (Call b) arp drp x = in_row 6 2 x || base_moves b arp x
names i arp drp x = false

-- EL, ER, LL and LR.
abbrev pub shifts : Operation → Bool
shifts ExtendedLeft = true
shifts ExtendedRight = true
shifts LogicalLeft = true
shifts LogicalRight = true
shifts o = false

-- ARP is set by its own codes and by PAD.
abbrev pub changes_arp : Instruction → Bool
changes_arp (SetArp x) = true
changes_arp (Alone RestoreStatus) = true
changes_arp i = false

-- DRP likewise.
abbrev pub changes_drp : Instruction → Bool
changes_drp (SetDrp x) = true
changes_drp (Alone RestoreStatus) = true
changes_drp i = false

-- Decimal mode is set by BIN, BCD and PAD alone: no computation and no store touches it.
abbrev pub changes_mode : Instruction → Bool
changes_mode (Alone Binary) = true
changes_mode (Alone Decimal) = true
changes_mode (Alone RestoreStatus) = true
changes_mode i = false

-- The other seven status bits are set by computations, stores and PAD alone.
abbrev pub changes_conditions : Instruction → Bool
changes_conditions (Compute o m f) = true
changes_conditions (Store m f) = true
changes_conditions (Alone RestoreStatus) = true
changes_conditions i = false

-- E takes the digit that a decimal shift loses.
abbrev pub changes_e : Instruction → Bool → Bool
changes_e (Compute o m f) dcm = shifts o && dcm
changes_e (Alone DecrementE) dcm = true
changes_e (Alone IncrementE) dcm = true
changes_e (Alone ClearE) dcm = true
changes_e i dcm = false

-- Every instruction moves the program counter, R4-R5.
abbrev pub may_change : Instruction → State → Part → Bool
may_change i s (Register k) = in_row 4 2 k || names i s.arp s.drp k
may_change i s Arp = changes_arp i
may_change i s Drp = changes_drp i
may_change i s ModePart = changes_mode i
may_change i s Conditions = changes_conditions i
may_change i s E = changes_e i s.status.dcm

-- Two states agree in a part.
abbrev pub Agree : Part → State → State → Type 0
Agree (Register k) s t = register_at t.registers k ≡ register_at s.registers k
Agree Arp s t = t.arp ≡ s.arp
Agree Drp s t = t.drp ≡ s.drp
Agree ModePart s t = t.status.dcm ≡ s.status.dcm
Agree Conditions s t = record t.status { dcm = s.status.dcm } ≡ s.status
Agree E s t = t.e ≡ s.e

-- Whatever the bus, the instruction whose code stands at the program counter leaves the part as it was.
unfoldable pub Leaves : Instruction → State → Part → Type 0
Leaves i s part = (m : Meaning) (code : ℕ) (p : Plan) → m.reads (wrap (pc_of s)) ≡ Ok code → decoded code ≡ Some i → came m (plan_tree s) ≡ Ok p → Agree part s p.after
