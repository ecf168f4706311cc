-- Each refusal's number and detail.
use Rattle.std.specs.Prelude.{ℕ}
use Rattle.reading.specs.declared.fault.Fault.{Fault}
use Rattle.reading.specs.declared.fault.Fault.TheVariants.{Bus, Illegal, NotDecimal}
use Rattle.reading.specs.Faults.{fault_number}
use Rattle.noninterference.specs.declared.refusal.StepFault.{StepFault}
use Rattle.noninterference.specs.declared.refusal.StepFault.TheVariants.{Sheet, OddVector, VisitOpen, Instruction}
use Rattle.noninterference.specs.declared.refusal.Detail.{Detail}
use Rattle.noninterference.specs.declared.refusal.Detail.TheVariants as detail
use Rattle.noninterference.specs.declared.refusal.Description.{Description}

-- Where the bus refused, the address that was asked and the depth; the illegal code; which byte was not decimal.
abbrev pub fault_detail : Fault → Detail
fault_detail (Bus a r) = detail.Bus a r.depth
fault_detail (Illegal c) = detail.Code c
fault_detail (NotDecimal b) = detail.Index b.index

-- 1 a sheet of another size, 2 an odd vector, 3 a visit is open, and 4 to 9 as the instruction says.
abbrev pub described : StepFault → Description
described Sheet = record { number = 1; detail = detail.None }
described OddVector = record { number = 2; detail = detail.None }
described VisitOpen = record { number = 3; detail = detail.None }
described (Instruction f) = record { number = fault_number f; detail = fault_detail f }

-- The number alone.
abbrev pub step_number : StepFault → ℕ
step_number f = (described f).number
