-- What the code tells of an instruction that it carried out, and the state that it left.
use Rattle.std.specs.Prelude.{ℕ, List, [], ◌∷◌, get_or, Ok, Err, Result}
use Rattle.byte_rows.specs.Short.{bytes_of}
use Rattle.registers.specs.State.{State}
use Rattle.registers.specs.Rows.{with_row}
use Rattle.execute.specs.declared.executed.Executed.{Executed}
use Rattle.execute.specs.Plans.{Plan}

abbrev pub plan_of : State → Executed → Plan
plan_of s x = record { after = s; at = x.at; bytes = bytes_of x.bytes; size = x.length; returns = x.returns }

-- A refusal leaves the state as it was.
abbrev pub if_ok : {A B E : Type 0} → Result A E → B → B → B
if_ok (Ok _) after before = after
if_ok (Err _) after before = before

-- The registers of the program counter.
abbrev pub place_of : State → List ℕ
place_of s = get_or s.registers 4 0 ∷ get_or s.registers 5 0 ∷ []

-- A refusal leaves the state as it was, once the program counter is put back.
abbrev pub but_for_the_place : {A E : Type 0} → Result A E → State → State → State
but_for_the_place (Ok _) after before = before
but_for_the_place (Err _) after before = with_row after 4 (place_of before)
