-- The refusals of an instruction.
use Rattle.std.specs.Prelude.{ℕ}
use Rattle.bus.specs.Meaning.{cause_number}
use Rattle.reading.specs.declared.fault.Fault.{Fault}
use Rattle.reading.specs.declared.fault.Fault.TheVariants.{Bus, Illegal, NotDecimal}

-- That of the cause where the bus refused, 8 for an illegal code, 9 for a byte that is not decimal.
abbrev pub fault_number : Fault → ℕ
fault_number (Bus a r) = cause_number r.cause
fault_number (Illegal c) = 8
fault_number (NotDecimal n) = 9
