-- What PAD and RTN give back of what SAD and JSB put at the return pointer.
use Rattle.std.specs.Prelude.{◌≡◌, ℕ, List, [], ◌∷◌, Ok, Some, None, Option}
use Rattle.std.specs.Result.{result_ok}
use Rattle.bus.specs.Meaning.{Meaning}
use Rattle.registers.specs.State.{State, pc_of}
use Rattle.registers.specs.Rows.{with_pair}
use Rattle.reading.specs.Trees.{wrap, came, map_ok}
use Rattle.reading.specs.Readings.{next}
use Rattle.decode.specs.declared.instruction.Control.TheVariants.{SaveStatus, Return, RestoreStatus}
use Rattle.decode.specs.declared.instruction.Instruction.{Instruction}
use Rattle.decode.specs.declared.instruction.Instruction.TheVariants.{Control as Alone, Call}
use Rattle.execute.specs.Instructions.{perform_tree}
use Rattle.execute.specs.Plans.{Plan}
use Rattle.execute.specs.States.{return_pointer}

-- PAD undoes SAD, and RTN undoes JSB.
abbrev pub undoing : Instruction → Option Instruction
undoing (Alone SaveStatus) = Some (Alone RestoreStatus)
undoing (Call b) = Some (Alone Return)
undoing i = None

-- From a state s in which an instruction was carried out, and a later state t: PAD gives back both pointers and all eight status
-- bits, RTN the program counter, each with the return pointer. E and the other registers stay as they are later.
abbrev pub given_back : Instruction → State → State → Option State
given_back (Alone SaveStatus) s t = Some (record (with_pair t 6 (return_pointer s)) { arp = s.arp; drp = s.drp; status = s.status })
given_back (Call b) s t = Some (with_pair (with_pair t 6 (return_pointer s)) 4 (pc_of s))
given_back i s t = None

-- The bytes stand from the address on.
abbrev pub Stand : Meaning → ℕ → List ℕ → Type 0
Stand m a [] = Unit {0}
Stand m a (b ∷ bs) = (m.reads (wrap a) ≡ Ok b) × Stand m (next a) bs

-- An instruction j that undoes i: where the return pointer is again as i left it, and the bytes that i stored still stand there,
-- whatever else happened on whatever bus, j gives back what is said above. In s and t the program counter has passed i and j.
unfoldable pub Undone : Instruction → State → State → Type 0
Undone i s t = (j : Instruction) (before later : Meaning) (p : Plan) (at to : ℕ) (ls js : List ℕ) → undoing i ≡ Some j → came before (perform_tree i s at ls) ≡ Ok p → return_pointer t ≡ return_pointer p.after → Stand later p.at p.bytes → result_ok (map_ok (λ q. q.after) (came later (perform_tree j t to js))) ≡ given_back i s t
