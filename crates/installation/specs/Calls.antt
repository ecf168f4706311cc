-- What each call comes to. A call that is out of turn is refused, and like every refused call changes nothing.
use Rattle.std.specs.Prelude.{ℕ, List, length, None, Ok, Err, Result}
use Rattle.registers.specs.State.{began, pc_of}
use Rattle.noninterference.specs.declared.answer.Answer.{Answer}
use Rattle.noninterference.specs.declared.refusal.Refusal.{Refusal}
use Rattle.noninterference.specs.Steps.{Worked, sized, step, ring}
use Rattle.engine.specs.declared.cold.LoadFault.{LoadFault}
use Rattle.engine.specs.declared.live.ReadOut.{ReadOut}
use Rattle.engine.specs.declared.live.running.Report.{Report}
use Rattle.engine.specs.Loads.{load_answer, load_after}
use Rattle.engine.specs.Machine.{machine, at_service}
use Rattle.engine.specs.Runs.{run_outcome, run_after}
use Rattle.engine.specs.States.{read_out_of}
use Rattle.installation.specs.declared.fault.CallFault.{CallFault}
use Rattle.installation.specs.declared.fault.CallFault.TheVariants.{OutOfTurn, Load, Exchange}
use Rattle.installation.specs.Worlds.{World, cold, live, over}

-- What a call answers, and what it leaves.
pub record Called (A : Type 0) : Type 0 where
  pub outcome : Result A CallFault
  pub after : World

-- A call that is out of turn.
abbrev pub out_of_turn : {A : Type 0} → World → Called A
out_of_turn w = record { outcome = Err OutOfTurn; after = w }

-- What is refused below is refused by the call.
abbrev pub by_load : Result (Unit {0}) LoadFault → Result (Unit {0}) CallFault
by_load (Ok _) = Ok tt
by_load (Err f) = Err (Load f)

abbrev pub by_exchange : {A : Type 0} → Result A Refusal → Result A CallFault
by_exchange (Ok a) = Ok a
by_exchange (Err r) = Err (Exchange r)

-- A step or a ring of the exchange.
abbrev pub tried : {A : Type 0} → Worked machine A → Called A
tried w = record { outcome = by_exchange w.outcome; after = live w.after_it }

-- The program counter of an exchange in service. It is only read.
abbrev pub pc_call : World → Result ℕ CallFault
pc_call (cold sheet m) = Err OutOfTurn
pc_call (live s) = Ok (pc_of s.cpu)
pc_call (over sheet m) = Err OutOfTurn

-- A load of a cold exchange; its memory's RAM ends at 32,768.
abbrev pub load_call : ℕ → List ℕ → World → Called (Unit {0})
load_call a bs (cold sheet m) = record { outcome = by_load (load_answer 32768 a (length bs)); after = cold sheet (load_after 32768 a bs m) }
load_call a bs (live s) = out_of_turn (live s)
load_call a bs (over sheet m) = out_of_turn (over sheet m)

-- GO leaves the sheet and the memory as they are; no visit is open.
abbrev pub go_call : ℕ → ℕ → World → Called (Unit {0})
go_call pc return (cold sheet m) = record { outcome = Ok tt; after = live (at_service (began pc return) None sheet m) }
go_call pc return (live s) = out_of_turn (live s)
go_call pc return (over sheet m) = out_of_turn (over sheet m)

-- A step of an exchange in service.
abbrev pub step_call : World → Called Answer
step_call (cold sheet m) = out_of_turn (cold sheet m)
step_call (live s) = tried (sized machine s (step machine s))
step_call (over sheet m) = out_of_turn (over sheet m)

-- A run of at most n steps.
abbrev pub run_call : ℕ → World → Called Report
run_call n (cold sheet m) = out_of_turn (cold sheet m)
run_call n (live s) = record { outcome = by_exchange (run_outcome n s); after = live (run_after n s) }
run_call n (over sheet m) = out_of_turn (over sheet m)

-- A ring through the vector v.
abbrev pub ring_call : ℕ → World → Called (Unit {0})
ring_call v (cold sheet m) = out_of_turn (cold sheet m)
ring_call v (live s) = tried (sized machine s (ring machine v s))
ring_call v (over sheet m) = out_of_turn (over sheet m)

-- The read-out ends the exchange; its sheet and memory stay.
abbrev pub end_call : World → Called ReadOut
end_call (cold sheet m) = out_of_turn (cold sheet m)
end_call (live s) = record { outcome = Ok (read_out_of s.cpu); after = over s.sheet s.meaning }
end_call (over sheet m) = out_of_turn (over sheet m)
