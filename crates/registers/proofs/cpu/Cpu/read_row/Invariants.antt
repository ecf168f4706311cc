use Rattle.std.proofs.Common.{◌≡◌, take}
use Rattle.registers.specs.Rows.{row_at}
use Rattle.registers.proofs.cpu.Cpu.read_row.Given as goal

abbrev pub invariant-loop-i : goal.invariant-loop-i
invariant-loop-i l = take l.i l.row ≡ row_at l.self.registers l.k l.i
