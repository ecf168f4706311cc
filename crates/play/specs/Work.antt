-- What a record does to the exchange.
use Rattle.std.specs.Prelude.{ℕ, List, length, None, Ok, Err, Option, Result}
use Rattle.bus.specs.Meaning.{Meaning}
use Rattle.registers.specs.State.{State, began, pc_of}
use Rattle.tape.specs.declared.record.Turn.{Turn}
use Rattle.tape.specs.declared.record.Turn.TheVariants as turn
use Rattle.tape.specs.declared.record.TapeFault.TheVariants.{OutOfTurn}
use Rattle.tape.specs.Records.{Entry, load, go, run, ring, end}
use Rattle.noninterference.specs.declared.refusal.Refusal.{Refusal as StepRefusal}
use Rattle.noninterference.specs.Steps.{State as ExchangeState, ring as ringing, sized}
use Rattle.engine.specs.declared.cold.LoadFault.{LoadFault}
use Rattle.engine.specs.Loads.{load_answer, load_after}
use Rattle.engine.specs.declared.live.running.Report.{Report}
use Rattle.engine.specs.Machine.{machine, at_service}
use Rattle.engine.specs.Runs.{run_outcome, run_after}
use Rattle.engine.specs.States.{live_state, visit_state, read_out_of}
use Rattle.play.specs.declared.fault.Refusal.{Refusal}
use Rattle.play.specs.declared.fault.Refusal.TheVariants.{Tape, Load, Step}
use Rattle.play.specs.declared.fault.Event.{Event}
use Rattle.play.specs.declared.fault.Event.TheVariants.{Loaded, Began, Ran, Rang, Ended}
use Rattle.play.specs.declared.phase.Phase.{Phase}
use Rattle.play.specs.declared.phase.Phase.TheVariants as phase

-- How far the exchange has come: cold, which is before GO; live, which is in service, with the state of its processor and, while
-- an interrupt handler is at work, the copy of the processor from before; after EN; or at a refused record.
pub data Stage : Type 0 where
  cold : Stage
  live : State → Option State → Stage
  ended : Stage
  refused : Stage

abbrev pub stage_of : Phase → Stage
stage_of (phase.Loading c) = cold
stage_of (phase.InService l) = live (live_state l) (visit_state l)
stage_of phase.Ended = ended
stage_of phase.Refused = refused

-- A cold exchange may be loaded and begun; after EN or a refusal nothing may come.
abbrev pub turn_of : Stage → Turn
turn_of cold = turn.Cold
turn_of (live s v) = turn.Live
turn_of ended = turn.Over
turn_of refused = turn.Over

-- An exchange with its sheet and what its bus means.
pub record Scene : Type 0 where
  pub stage : Stage
  pub sheet : List ℕ
  pub meaning : Meaning

abbrev pub scene : Stage → List ℕ → Meaning → Scene
scene g s m = record { stage = g; sheet = s; meaning = m }

-- What came of a record, and what is left of the exchange, its sheet and its bus.
pub record Worked : Type 0 where
  pub outcome : Result Event Refusal
  pub after : Scene

-- A refused record ends the tape.
abbrev pub worked : Result Event Refusal → Stage → List ℕ → Meaning → Worked
worked (Ok e) g s m = record { outcome = Ok e; after = scene g s m }
worked (Err r) g s m = record { outcome = Err r; after = scene refused s m }

abbrev pub load_outcome : Result (Unit {0}) LoadFault → Result Event Refusal
load_outcome (Ok _) = Ok Loaded
load_outcome (Err f) = Err (Load f)

-- A refused load ends the tape.
abbrev pub load_stage : Result (Unit {0}) LoadFault → Stage
load_stage (Ok _) = cold
load_stage (Err f) = refused

-- A record that is out of turn is refused, and ends the tape.
abbrev out_of_turn : Scene → Worked
out_of_turn s = record { outcome = Err (Tape OutOfTurn); after = scene refused s.sheet s.meaning }

-- An exchange in service, with its sheet and bus, and back.
abbrev pub in_scene : State → Option State → Scene → ExchangeState machine
in_scene s v here = at_service s v here.sheet here.meaning

abbrev pub scene_of : ExchangeState machine → Scene
scene_of x = scene (live x.cpu x.visit) x.sheet x.meaning

-- A run that is refused whole ends the tape; what a run stops at does not. The program counter told is the one after the run.
abbrev pub run_event : Result Report StepRefusal → ExchangeState machine → Result Event Refusal
run_event (Ok r) x = Ok (Ran r (pc_of x.cpu))
run_event (Err f) x = Err (Step f)

abbrev pub run_scene : Result Report StepRefusal → ExchangeState machine → Scene
run_scene (Ok r) x = scene_of x
run_scene (Err f) x = scene refused x.sheet x.meaning

-- A run of an exchange in service.
abbrev pub ran_on : ℕ → ExchangeState machine → Worked
ran_on n x = record { outcome = run_event (run_outcome n x) (run_after n x); after = run_scene (run_outcome n x) (run_after n x) }

-- A ring: a refused one does not end the tape.
abbrev pub rang_on : ℕ → ExchangeState machine → Worked
rang_on v x = record { outcome = Ok (Rang (sized machine x (ringing machine v x)).outcome (pc_of (sized machine x (ringing machine v x)).after_it.cpu)); after = scene_of (sized machine x (ringing machine v x)).after_it }

-- LD loads a cold exchange, whose RAM ends at 32,768; GO uses up the cold one and gives a live one, with no visit open; RU and RI
-- run and ring the live one; EN uses it up and gives its read-out. LD, GO and EN do not touch the sheet.
abbrev pub work_on : Entry → Stage → Scene → Worked
work_on (load a o bs) cold s = record { outcome = load_outcome (load_answer 32768 a (length bs)); after = scene (load_stage (load_answer 32768 a (length bs))) s.sheet (load_after 32768 a bs s.meaning) }
work_on (load a o bs) (live l v) s = out_of_turn s
work_on (load a o bs) ended s = out_of_turn s
work_on (load a o bs) refused s = out_of_turn s
work_on (go pc return) cold s = record { outcome = Ok Began; after = scene (live (began pc return) None) s.sheet s.meaning }
work_on (go pc return) (live l v) s = out_of_turn s
work_on (go pc return) ended s = out_of_turn s
work_on (go pc return) refused s = out_of_turn s
work_on (run n) cold s = out_of_turn s
work_on (run n) (live l v) s = ran_on n (in_scene l v s)
work_on (run n) ended s = out_of_turn s
work_on (run n) refused s = out_of_turn s
work_on (ring n) cold s = out_of_turn s
work_on (ring n) (live l v) s = rang_on n (in_scene l v s)
work_on (ring n) ended s = out_of_turn s
work_on (ring n) refused s = out_of_turn s
work_on end cold s = out_of_turn s
work_on end (live l v) s = record { outcome = Ok (Ended (read_out_of l)); after = scene ended s.sheet s.meaning }
work_on end ended s = out_of_turn s
work_on end refused s = out_of_turn s

abbrev pub work_of : Entry → Scene → Worked
work_of e s = work_on e s.stage s
