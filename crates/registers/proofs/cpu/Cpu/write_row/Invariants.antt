use Rattle.std.proofs.Common.{◌≡◌, take}
use Rattle.registers.specs.Model.{state_of}
use Rattle.registers.specs.Rows.{with_row}
use Rattle.registers.proofs.cpu.Cpu.write_row.Given as goal

abbrev pub invariant-loop-i : goal.invariant-loop-i
invariant-loop-i l = state_of l.self ≡ with_row (state_of l.initial.self) l.k (take l.i l.row)
