-- An exchange with the history of all that was tried on it since it began.
use Rattle.std.specs.Prelude.{◌≡◌, ℕ, Bool, true, false, cond, List, [], ◌∷◌, map, Some, None, Ok, Err, Option, Result}
use Rattle.bus.specs.Meaning.{Meaning}
use Rattle.stains.specs.Marks.{blank}
use Rattle.stains.specs.Stores.{Store, stores_to}
use Rattle.noninterference.specs.declared.answer.Answer.{Answer}
use Rattle.noninterference.specs.declared.answer.VisitEnd.{VisitEnd}
use Rattle.noninterference.specs.declared.answer.VisitEnd.TheVariants.{Clean, Marred}
use Rattle.noninterference.specs.declared.refusal.Refusal.{Refusal}
use Rattle.noninterference.specs.Processors.{Processor}
use Rattle.noninterference.specs.Steps.{Outcome, State, Worked, step, ring, tries}

-- A step outside visits, a step within one, or a ring, with what it answered and the stores that it made. Refused ones are
-- events too, which made no stores.
pub data Event : Type 0 where
  outside : Outcome → List Store → Event
  within : Outcome → List Store → Event
  ringing : Result (Unit {0}) Refusal → List Store → Event

-- The stores of an event.
abbrev pub stores_of : Event → List Store
stores_of (outside o ss) = ss
stores_of (within o ss) = ss
stores_of (ringing o ss) = ss

-- The handler stores by rings and by steps within visits.
abbrev pub by_handler : Event → Bool
by_handler (outside o ss) = false
by_handler (within o ss) = true
by_handler (ringing o ss) = true

-- Whether the last store to the address was the handler's. The newest event stands first.
abbrev pub last_by_handler : List Event → ℕ → Bool
last_by_handler [] a = false
last_by_handler (e ∷ es) a = cond (stores_to (stores_of e) a) (by_handler e) (last_by_handler es a)

abbrev pub answers_with : Event → List Outcome → List Outcome
answers_with (outside o ss) os = o ∷ os
answers_with (within o ss) os = os
answers_with (ringing o ss) os = os

-- The answers and refusals to the steps outside visits, the newest first: what the interrupted program shows of itself.
abbrev pub answers : List Event → List Outcome
answers [] = []
answers (e ∷ es) = answers_with e (answers es)

-- A visit that ended, if one did, ended clean.
abbrev pub Unmarred : Option VisitEnd → Type 0
Unmarred None = Unit {0}
Unmarred (Some Clean) = Unit {0}
Unmarred (Some (Marred m)) = ⊥

-- An answer or a refusal that tells no stain and no mar.
abbrev pub Clear : Outcome → Type 0
Clear (Ok a) = (a.told ≡ None) × Unmarred a.ended
Clear (Err r) = r.told ≡ None

abbrev pub ClearEvent : Event → Type 0
ClearEvent (outside o ss) = Clear o
ClearEvent (within o ss) = Clear o
ClearEvent (ringing o ss) = Unit {0}

-- No step told a stain and no visit ended marred.
abbrev pub AllClear : List Event → Type 0
AllClear [] = Unit {0}
AllClear (e ∷ es) = ClearEvent e × AllClear es

-- The calls of an exchange in service.
pub data Call : Type 0 where
  a_step : Call
  a_run : ℕ → Call
  a_ring : ℕ → Call

-- No call is a ring.
abbrev pub Unrung : List Call → Type 0
Unrung [] = Unit {0}
Unrung (a_step ∷ cs) = Unrung cs
Unrung (a_run n ∷ cs) = Unrung cs
Unrung (a_ring v ∷ cs) = ⊥

-- A history purged of rings and visits: a step for each step outside visits. Which order they have is no question, as one
-- step is asked for like another.
abbrev pub purged : List Event → List Call
purged es = map (λ _. a_step) (answers es)

module _ (P : Processor) where
  open P use {Cpu}

  -- A live exchange, and all that was tried on it, the newest first.
  pub record Exchange : Type 0 where
    pub state : State P
    pub history : List Event

  -- When an exchange begins no visit is open, the sheet is blank and nothing was tried.
  abbrev pub begun : Cpu → Meaning → Exchange
  begun c m = record { state = record { cpu = c; visit = None; sheet = blank; meaning = m }; history = [] }

  -- A step is within a visit if one is open when it begins.
  abbrev pub step_event : Option Cpu → Worked P Answer → Event
  step_event None w = outside w.outcome w.stores_made
  step_event (Some copy) w = within w.outcome w.stores_made

  -- A step with what it came to is one more event.
  abbrev pub recorded : Worked P Answer → Exchange → Exchange
  recorded w x = record { state = w.after_it; history = step_event x.state.visit w ∷ x.history }

  -- One step after another.
  abbrev pub recorded_all : List (Worked P Answer) → Exchange → Exchange
  recorded_all [] x = x
  recorded_all (w ∷ ws) x = recorded_all ws (recorded w x)

  -- A run stands for the steps that it tries, a refused last one too. The sheet and the bus are written by these calls alone.
  abbrev pub called : Call → Exchange → Exchange
  called a_step x = recorded (step P x.state) x
  called (a_run n) x = recorded_all (tries P n x.state) x
  called (a_ring v) x = record { state = (ring P v x.state).after_it; history = ringing (ring P v x.state).outcome (ring P v x.state).stores_made ∷ x.history }

  -- One call after another.
  abbrev pub called_all : List Call → Exchange → Exchange
  called_all [] x = x
  called_all (c ∷ cs) x = called_all cs (called c x)
