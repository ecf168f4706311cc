-- What an exchange in service holds, and what it ends with.
use Rattle.std.specs.Prelude.{ℕ, List, Some, None, Option}
use Rattle.bus.specs.Meaning.{Meaning}
use Rattle.registers.specs.declared.cpu.Cpu.{Cpu}
use Rattle.registers.specs.State.{State}
use Rattle.registers.specs.Model.{state_of}
use Rattle.noninterference.specs.Steps.{State as ExchangeState}
use Rattle.engine.specs.declared.live.Live.{Live}
use Rattle.engine.specs.declared.live.ReadOut.{ReadOut}
use Rattle.engine.specs.Machine.{machine, at_service}

-- The state of its processor.
abbrev pub live_state : Live → State
live_state l = state_of l.cpu

-- The state of a copy, if there is one.
abbrev pub copy_of : Option Cpu → Option State
copy_of None = None
copy_of (Some c) = Some (state_of c)

-- The copy that an open visit keeps.
abbrev pub visit_state : Live → Option State
visit_state l = copy_of l.visit

-- An exchange with its sheet, on a bus that means m.
abbrev pub in_service : Live → List ℕ → Meaning → ExchangeState machine
in_service l sheet m = at_service (live_state l) (visit_state l) sheet m

-- The read-out is a dump of the processor's whole state.
abbrev pub read_out_of : State → ReadOut
read_out_of s = record { registers = s.registers; arp = s.arp; drp = s.drp; status = s.status; e = s.e }
