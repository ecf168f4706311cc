-- What a step, a ring and a run of an exchange work out, over any processor.
use Rattle.std.specs.Prelude.{ℕ, zero, suc, ◌+◌, ◌%◌, Bool, true, false, cond, ◌&&◌, List, [], ◌∷◌, length, Some, None, Ok, Err, Option, Result, ◌==◌}
use Rattle.registers.specs.declared.mar.Mar.{Mar}
use Rattle.bus.specs.Meaning.{Meaning}
use Rattle.reading.specs.declared.fault.Fault.{Fault}
use Rattle.reading.specs.Sheets.{noted}
use Rattle.reading.specs.Trees.{came, asked}
use Rattle.stains.specs.Stores.{Store, stored_all, marked_all}
use Rattle.noninterference.specs.declared.answer.Answer.{Answer}
use Rattle.noninterference.specs.declared.answer.Letter.{Letter}
use Rattle.noninterference.specs.declared.answer.Letter.TheVariants as letter
use Rattle.noninterference.specs.declared.answer.VisitEnd.{VisitEnd}
use Rattle.noninterference.specs.declared.answer.VisitEnd.TheVariants.{Clean, Marred}
use Rattle.noninterference.specs.declared.refusal.Refusal.{Refusal}
use Rattle.noninterference.specs.declared.refusal.StepFault.{StepFault}
use Rattle.noninterference.specs.declared.refusal.StepFault.TheVariants.{Sheet, OddVector, VisitOpen, Instruction}
use Rattle.noninterference.specs.Processors.{Processor}

-- What a step answers.
abbrev pub Outcome : Type 0
Outcome = Result Answer Refusal

-- A visit that ends is clean, or marred by the first part that differs.
abbrev pub verdict : Option Mar → VisitEnd
verdict None = Clean
verdict (Some m) = Marred m

module _ (P : Processor) where
  open P use {Cpu, Plan, after, stores, size, returns, plan, jump, place, level, mar}

  -- A live exchange, with its sheet and what its bus means. A visit is one activation of an interrupt handler; while it is open
  -- there is a copy of the processor from before the interrupt, which is its ring.
  pub record State : Type 0 where
    pub cpu : Cpu
    pub visit : Option Cpu
    pub sheet : List ℕ
    pub meaning : Meaning

  -- A step or a ring, worked out: what it answers, the stores that it makes, and the state after it.
  pub record Worked (A : Type 0) : Type 0 where
    pub outcome : Result A Refusal
    pub stores_made : List Store
    pub after_it : State

  -- A refusal says where the program counter was, and changes nothing.
  abbrev pub refused : {A : Type 0} → State → StepFault → Option ℕ → Worked A
  refused s f told = record { outcome = Err (record { place = place s.cpu; fault = f; told = told }); stores_made = []; after_it = s }

  -- The state after a plan: its stores are made, and set or clear the stains of their addresses.
  abbrev pub planned : State → Option Cpu → Bool → Plan → State
  planned s visit stain p = record { cpu = after p; visit = visit; sheet = marked_all stain (stores p) s.sheet; meaning = stored_all (stores p) s.meaning }

  -- What came of reading and checking an instruction is carried out: its plan with an answer, or the refusal.
  abbrev pub carried_out : {A : Type 0} → State → Option ℕ → (Plan → A) → (Plan → Option Cpu) → Bool → Result Plan Fault → Worked A
  carried_out s told answer visit stain (Ok p) = record { outcome = Ok (answer p); stores_made = stores p; after_it = planned s (visit p) stain p }
  carried_out s told answer visit stain (Err f) = refused s (Instruction f) told

  -- Outside a visit: the first stained address that was read is told, also where the step is refused, and stores clear stains.
  abbrev pub outside_by : State → Option ℕ → Result Plan Fault → Worked Answer
  outside_by s told r = carried_out s told (λ p. record { place = place s.cpu; length = size p; told = told; ended = None }) (λ p. None) false r

  -- The visit ends at an RTN that brings the return pointer back.
  abbrev pub ends : Cpu → Plan → Bool
  ends copy p = returns p && level copy (after p)

  -- Within a visit: nothing is told, and stores set stains. The step that ends the visit says how; then the copy goes.
  abbrev pub within_by : State → Cpu → Result Plan Fault → Worked Answer
  within_by s copy r = carried_out s None (λ p. record { place = place s.cpu; length = size p; told = None; ended = cond (ends copy p) (Some (verdict (mar copy (after p)))) None }) (λ p. cond (ends copy p) None (Some copy)) true r

  -- The first stained address that the next instruction asks the bus to read, by the sheet before the step.
  abbrev pub told_of : State → Option ℕ
  told_of s = noted s.sheet None (asked s.meaning (plan s.cpu))

  abbrev pub step_by : Option Cpu → State → Worked Answer
  step_by None s = outside_by s (told_of s) (came s.meaning (plan s.cpu))
  step_by (Some copy) s = within_by s copy (came s.meaning (plan s.cpu))

  -- One step. It is within a visit if one is open when it begins.
  abbrev pub step : State → Worked Answer
  step s = step_by s.visit s

  -- A ring opens a visit, and its stores set stains.
  abbrev pub rung : State → Result Plan Fault → Worked (Unit {0})
  rung s r = carried_out s None (λ p. tt) (λ p. Some s.cpu) true r

  abbrev pub ring_by : Bool → Option Cpu → ℕ → State → Worked (Unit {0})
  ring_by false visit v s = refused s OddVector None
  ring_by true (Some copy) v s = refused s VisitOpen None
  ring_by true None v s = rung s (came s.meaning (jump v s.cpu))

  -- A ring is an interrupt through a vector: an odd one is refused, then one with a visit open; else it jumps to the handler as to a
  -- subroutine. It tells no stain.
  abbrev pub ring : ℕ → State → Worked (Unit {0})
  ring v s = ring_by (v % 2 == 0) s.visit v s

  -- With a sheet of another size than 8,192 bytes every call is refused first.
  abbrev pub sized : {A : Type 0} → State → Worked A → Worked A
  sized s w = cond (length s.sheet == 8192) w (refused s Sheet None)

-- A clean end stops no run.
abbrev pub end_letter : Option VisitEnd → Letter
end_letter None = letter.Done
end_letter (Some Clean) = letter.Done
end_letter (Some (Marred m)) = letter.Marred

abbrev pub answer_letter : Option ℕ → Option VisitEnd → Letter
answer_letter (Some a) e = letter.Told
answer_letter None e = end_letter e

-- Why a run stops after a step: it was refused, it told a stain, or a visit ended marred; else the run goes on.
abbrev pub step_letter : Outcome → Letter
step_letter (Err r) = letter.Refused
step_letter (Ok a) = answer_letter a.told a.ended

-- Every letter but S stops a run.
abbrev pub stops : Letter → Bool
stops letter.Done = false
stops letter.Refused = true
stops letter.Told = true
stops letter.Marred = true

-- A refused step is not counted.
abbrev pub counted : Outcome → ℕ → ℕ
counted (Ok a) n = n + 1
counted (Err r) n = n

module _ (P : Processor) where
  -- The steps that a run of at most n tries: a step after which it stops, a refused one too, is the last.
  abbrev pub tries : ℕ → State P → List (Worked P Answer)
  tries zero s = []
  tries (suc n) s = step P s ∷ cond (stops (step_letter (step P s).outcome)) [] (tries n (step P s).after_it)

  -- The steps done, why the run stopped, the last answer, and the state after it.
  pub record Ran : Type 0 where
    pub done : ℕ
    pub why : Letter
    pub last : Option Outcome
    pub state_after_all : State P

  abbrev pub last_letter : Option Outcome → Letter
  last_letter None = letter.Done
  last_letter (Some o) = step_letter o

  -- After n steps done, the last of them answered as given, in this state, with these steps to come.
  abbrev pub summed : ℕ → Option Outcome → State P → List (Worked P Answer) → Ran
  summed n last s [] = record { done = n; why = last_letter last; last = last; state_after_all = s }
  summed n last s (w ∷ ws) = summed (counted w.outcome n) (Some w.outcome) w.after_it ws

  -- A run of at most n steps.
  abbrev pub run : ℕ → State P → Ran
  run n s = summed 0 None s (tries n s)
