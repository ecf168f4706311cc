-- What calls say to C.
use Rattle.std.specs.Prelude.{ℕ, false, is_some, unwrap_or, Option, Some, None, Ok, Err, Result}
use Rattle.registers.specs.Bits.{status_byte}
use Rattle.registers.specs.Marks.{mar_number}
use Rattle.noninterference.specs.declared.answer.Answer.{Answer}
use Rattle.noninterference.specs.Letters.{letter_byte}
use Rattle.noninterference.specs.declared.answer.VisitEnd.{VisitEnd}
use Rattle.noninterference.specs.declared.answer.VisitEnd.TheVariants.{Clean, Marred}
use Rattle.noninterference.specs.declared.refusal.Detail.{Detail}
use Rattle.noninterference.specs.declared.refusal.Detail.TheVariants as detail
use Rattle.noninterference.specs.declared.refusal.Refusal.{Refusal}
use Rattle.engine.specs.declared.live.ReadOut.{ReadOut as EngineReadOut}
use Rattle.engine.specs.declared.live.running.Report.{Report}
use Rattle.installation.specs.declared.fault.CallFault.{CallFault}
use Rattle.installation.specs.declared.fault.CallFault.TheVariants.{Exchange}
use Rattle.installation.specs.Numbers.{call_described, call_place, call_told}
use Rattle.board.specs.declared.answers.Said.{Said}
use Rattle.board.specs.declared.answers.Ran.{Ran}
use Rattle.board.specs.declared.answers.ReadOut.{ReadOut}

-- All zero.
abbrev pub nothing_said : Said
nothing_said = record { place = 0; stain = 0; detail = 0; number = 0; length = 0; depth = 0; mar = 0; told = false; ended = false; marred = false }

-- The mar with which a visit ended.
abbrev pub mar_in : Option VisitEnd → Option ℕ
mar_in None = None
mar_in (Some Clean) = None
mar_in (Some (Marred m)) = Some (mar_number m)

-- A step that was not refused: no number, and its place, its length, the stain told and how a visit ended.
abbrev pub answered : Answer → Said
answered a = record nothing_said { place = a.place; length = a.length; told = is_some a.told; stain = unwrap_or a.told 0; ended = is_some a.ended; marred = is_some (mar_in a.ended); mar = unwrap_or (mar_in a.ended) 0 }

-- The address asked, the illegal code, or the index of a byte that is not decimal.
abbrev pub detail_number : Detail → ℕ
detail_number detail.None = 0
detail_number (detail.Bus a d) = a
detail_number (detail.Code c) = c
detail_number (detail.Index i) = i

-- How deep the bus refused.
abbrev pub detail_depth : Detail → ℕ
detail_depth detail.None = 0
detail_depth (detail.Bus a d) = d
detail_depth (detail.Code c) = 0
detail_depth (detail.Index i) = 0

-- A refused call: its number, place and detail, and the stain told.
abbrev pub refused : CallFault → Said
refused f = record nothing_said { place = call_place f; number = (call_described f).number; detail = detail_number (call_described f).detail; depth = detail_depth (call_described f).detail; told = is_some (call_told f); stain = unwrap_or (call_told f) 0 }

-- A ring that was taken says nothing.
abbrev pub silent : Unit {0} → Said
silent u = nothing_said

-- An answer, or a refusal.
abbrev pub said_of : {A : Type 0} → (A → Said) → Result A CallFault → Said
said_of say (Ok a) = say a
said_of say (Err f) = refused f

-- The number of a refusal, or 0.
abbrev pub number_of : {A : Type 0} → Result A CallFault → ℕ
number_of (Ok a) = 0
number_of (Err f) = (call_described f).number

-- The last answer of a run; a run of no steps has none.
abbrev pub last_said : Option (Result Answer Refusal) → Said
last_said None = nothing_said
last_said (Some (Ok a)) = answered a
last_said (Some (Err r)) = refused (Exchange r)

-- A run: its last answer, the steps done and its letter. One that is refused whole has no letter.
abbrev pub ran_of : Result Report CallFault → Ran
ran_of (Ok r) = record { last = last_said r.last; done = r.done; letter = letter_byte r.letter }
ran_of (Err f) = record { last = refused f; done = 0; letter = 0 }

-- The read-out, with the status as a byte.
abbrev pub read_out_of : EngineReadOut → ReadOut
read_out_of r = record { registers = r.registers; arp = r.arp; drp = r.drp; e = r.e; status = status_byte r.status }

-- A read-out is written only where the call is taken.
abbrev pub read_out_after : Result EngineReadOut CallFault → ReadOut → ReadOut
read_out_after (Ok r) old = read_out_of r
read_out_after (Err f) old = old

-- The program counter is written only where the call is taken.
abbrev pub pc_after : Result ℕ CallFault → ℕ → ℕ
pc_after (Ok pc) old = pc
pc_after (Err f) old = old
