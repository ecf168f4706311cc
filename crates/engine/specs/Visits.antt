-- How visits end, and calls that are refused.
use Rattle.std.specs.Prelude.{ℕ, Bool, cond, ◌&&◌, Some, None, Ok, Err, Option, Result, ◌==◌}
use Rattle.registers.specs.Differences.{mar_of}
use Rattle.registers.specs.State.{State, pc_of}
use Rattle.execute.specs.States.{return_pointer}
use Rattle.noninterference.specs.Steps.{verdict}
use Rattle.noninterference.specs.declared.answer.VisitEnd.{VisitEnd}
use Rattle.noninterference.specs.declared.refusal.Refusal.{Refusal}
use Rattle.noninterference.specs.declared.refusal.StepFault.{StepFault}
use Rattle.noninterference.specs.declared.refusal.StepFault.TheVariants.{Sheet}
use Rattle.engine.specs.declared.live.Live.{Live}
use Rattle.engine.specs.States.{live_state}

-- Within a visit no stain is told.
abbrev pub told_by : Option State → Option ℕ → Option ℕ
told_by None told = told
told_by (Some copy) told = None

-- A visit ends at an RTN that brings the return pointer back to where it was before the ring.
abbrev pub ends : Bool → State → State → Bool
ends returns copy s = returns && return_pointer copy == return_pointer s

-- How the open visit, if there is one, ended.
abbrev pub end_of : Option State → Bool → State → Option VisitEnd
end_of None returns s = None
end_of (Some copy) returns s = cond (ends returns copy s) (Some (verdict (mar_of copy s))) None

-- The copy goes when the visit has ended.
abbrev pub visit_after : Option State → Bool → State → Option State
visit_after None returns s = None
visit_after (Some copy) returns s = cond (ends returns copy s) None (Some copy)

-- A sheet of n bytes is refused unless it has 8,192.
abbrev pub if_sized : ℕ → ℕ → Result (Unit {0}) Refusal
if_sized n place = cond (n == 8192) (Ok tt) (Err (record { place = place; fault = Sheet; told = None }))

-- A refused ring, with its place; it tells no stain.
abbrev pub refused_as : Live → Result (Unit {0}) StepFault → Result (Unit {0}) Refusal
refused_as l (Ok u) = Ok tt
refused_as l (Err f) = Err (record { place = pc_of (live_state l); fault = f; told = None })
