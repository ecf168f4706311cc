-- What each instruction asks of the bus and comes to. The program counter has passed the instruction before anything here: as a
-- register, R4-R5 is already the next address. All data and operands are read before any register is written; the moved pair
-- is written first, the result over it. The bytes after the code are `ls`, so that the length is one more than theirs.
use Rattle.std.specs.Prelude.{ℕ, ◌+◌, ◌/◌, ◌%◌, Bool, true, false, cond, List, [], ◌∷◌, length, Some, Option, Result, slice_index}
use Rattle.std.specs.Result.{result_map_both}
use Rattle.registers.specs.declared.cpu.rows.Form.{Form}
use Rattle.registers.specs.declared.cpu.rows.Form.TheVariants.{Byte}
use Rattle.registers.specs.State.{State, pc_of}
use Rattle.registers.specs.Rows.{with_row, with_pair}
use Rattle.alu.specs.declared.operations.Flags.{Flags}
use Rattle.alu.specs.declared.operations.Operation.{Operation}
use Rattle.alu.specs.declared.operations.Operation.TheVariants.{Test, Compare}
use Rattle.alu.specs.Operations.{Done, operated}
use Rattle.alu.specs.Seen.{seen}
use Rattle.reading.specs.declared.fault.Fault.{Fault}
use Rattle.reading.specs.declared.fault.Fault.TheVariants.{NotDecimal}
use Rattle.reading.specs.Trees.{Tree, done, bind, given}
use Rattle.reading.specs.Readings.{next, pair_tree, row_tree}
use Rattle.decode.specs.declared.instruction.Base.{Base}
use Rattle.decode.specs.declared.instruction.Mode.{Mode}
use Rattle.decode.specs.declared.instruction.Mode.TheVariants.{Register, Immediate, Memory}
use Rattle.decode.specs.declared.instruction.Control.{Control}
use Rattle.decode.specs.declared.instruction.Control.TheVariants.{Binary, Decimal, SaveStatus, DecrementE, IncrementE, ClearE, Return, RestoreStatus}
use Rattle.decode.specs.declared.instruction.Condition.{Condition}
use Rattle.decode.specs.declared.instruction.Instruction.{Instruction}
use Rattle.decode.specs.declared.instruction.Instruction.TheVariants.{SetArp, SetDrp, Compute, Store, Control as Alone, Call, Jump}
use Rattle.addressing.specs.Addresses.{base_of, with_moved, address_tree}
use Rattle.addressing.specs.Operands.{data_of, operand_tree}
use Rattle.addressing.specs.Fetching.{Fetched, literal_tree, fetch_tree, passed}
use Rattle.execute.specs.Conditions.{met, jumped}
use Rattle.execute.specs.States.{with_pointers, with_status, with_e, pointed, in_mode, return_pointer, lowered, raised, saved, restored}
use Rattle.execute.specs.Plans.{Plan, still, returning, storing, settled}

-- What an operation finds of the status and E.
abbrev pub flags_of : State → Flags
flags_of s = record { status = s.status; e = s.e }

-- A test and a comparison leave only status and E.
abbrev pub keeps : Operation → Bool
keeps Test = false
keeps Compare = false
keeps o = true

-- The state with what an operation left: the data, the status and E.
abbrev pub with_done : Operation → State → Done → State
with_done o s d = with_e (with_status (cond (keeps o) (with_row s s.drp d.row) s) d.flags.status) d.flags.e

-- The state with the pair moved that the mode moves.
abbrev pub moved_by : Option Mode → Form → State → List ℕ → State
moved_by (Some (Memory b i)) f s ls = with_moved b i f s ls
moved_by m f s ls = s

-- An operation on the data and an operand: what it leaves is written over the moved pair.
abbrev pub computed : Operation → Option Mode → Form → State → List ℕ → List ℕ → Result Plan Fault
computed o m f s ls operand = result_map_both (λ d. still (1 + length ls) (with_done o (moved_by m f s ls) d)) NotDecimal (operated o (flags_of s) (data_of f s) operand)

-- The operand is read before the operation.
abbrev pub compute_tree : Operation → Option Mode → Form → State → List ℕ → Tree Plan
compute_tree o m f s ls = bind (operand_tree m f s ls) (λ operand. given (computed o m f s ls operand))

-- A store sees its data, and clears CY and OVF.
abbrev pub with_seen : State → List ℕ → State
with_seen s row = with_status s (seen s.status false false row)

-- A store of the data to the address a in memory, by a mode that moves a pair or none.
abbrev pub stored_memory : Mode → Form → State → List ℕ → ℕ → Plan
stored_memory m f s ls a = storing (1 + length ls) a (data_of f s) (with_seen (moved_by (Some m) f s ls) (data_of f s))

-- A store of the data to the registers from ARP on.
abbrev pub stored_registers : Form → State → List ℕ → Plan
stored_registers f s ls = still (1 + length ls) (with_seen (with_row s s.arp (data_of f s)) (data_of f s))

-- The data go to the registers from ARP on, over the bytes after the code, whose address is `after`, or to memory.
abbrev pub store_tree : Mode → Form → State → ℕ → List ℕ → Tree Plan
store_tree Register f s after ls = done (stored_registers f s ls)
store_tree Immediate f s after ls = settled (stored_memory Immediate f s ls after)
store_tree (Memory b i) f s after ls = bind (address_tree i (base_of b i f s ls)) (λ a. settled (stored_memory (Memory b i) f s ls a))

-- JSB stores the program counter at the return pointer, raises that by 2, and goes to the base address. No base of JSB is a
-- stack pointer, which alone would be moved by a form.
abbrev pub called : Base → State → List ℕ → Plan
called b s ls = storing (1 + length ls) (return_pointer s) (pc_of s % 256 ∷ pc_of s / 256 ∷ []) (with_pair (with_pair (with_moved b false Byte s ls) 6 ((return_pointer s + 2) % 65536)) 4 (base_of b false Byte s ls))

-- BIN, BCD, SAD, DCE, ICE, CLE, RTN, PAD. No bytes follow their codes.
abbrev pub control_tree : Control → State → Tree Plan
control_tree Binary s = done (still 1 (with_status s (in_mode s.status false)))
control_tree Decimal s = done (still 1 (with_status s (in_mode s.status true)))
control_tree SaveStatus s = settled (storing 1 (return_pointer s) (saved s) (raised s 3))
control_tree DecrementE s = done (still 1 (with_e s (s.e + 15)))
control_tree IncrementE s = done (still 1 (with_e s (s.e + 1)))
control_tree ClearE s = done (still 1 (with_e s 0))
control_tree Return s = bind (pair_tree (lowered s 2)) (λ a. done (returning 1 (with_pair (with_pair s 6 (lowered s 2)) 4 a)))
control_tree RestoreStatus s = bind (row_tree 3 (lowered s 3)) (λ bs. done (still 1 (restored (with_pair s 6 (lowered s 3)) bs)))

-- A jump that is taken changes the program counter, by the byte after the code.
abbrev pub jumped_to : Condition → State → List ℕ → State
jumped_to c s ls = cond (met c s.status s.e) (with_pair s 4 (jumped (pc_of s) (slice_index ls 0))) s

-- An instruction; the bytes after its code stand at `after`.
abbrev pub perform_tree : Instruction → State → ℕ → List ℕ → Tree Plan
perform_tree (SetArp x) s after ls = done (still 1 (with_pointers s (pointed x s) s.drp))
perform_tree (SetDrp x) s after ls = done (still 1 (with_pointers s s.arp (pointed x s)))
perform_tree (Compute o m f) s after ls = compute_tree o m f s ls
perform_tree (Store m f) s after ls = store_tree m f s after ls
perform_tree (Alone c) s after ls = control_tree c s
perform_tree (Call b) s after ls = settled (called b s ls)
perform_tree (Jump c) s after ls = done (still 2 (jumped_to c s ls))

-- A fetched instruction: the program counter passes it, and it goes on from there.
abbrev pub fetched_tree : State → Fetched → Tree Plan
fetched_tree s f = perform_tree f.instruction (passed s f) (next (pc_of s)) f.literal

-- An instruction whose code was read: the bytes after the code are fetched, and it goes on from there. It does not unfold by itself.
unfoldable pub coded_by : Instruction → State → Tree Plan
coded_by i s = bind (literal_tree i s) (fetched_tree s)

-- A whole instruction, from its fetch on.
abbrev pub plan_tree : State → Tree Plan
plan_tree s = bind (fetch_tree s) (fetched_tree s)
