-- The state of a processor in memory.
use Rattle.registers.specs.declared.cpu.Cpu.{Cpu}
use Rattle.registers.specs.State.{State}

abbrev pub state_of : Cpu → State
state_of c = record { registers = c.registers; arp = c.arp; drp = c.drp; status = c.status; e = c.e }
