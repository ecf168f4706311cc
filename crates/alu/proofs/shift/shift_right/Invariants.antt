use Rattle.std.proofs.Common.{◌≡◌, ◌<◌, take, drop}
use Rattle.alu.specs.Shifts.{right_row, right_out}
use Rattle.alu.proofs.shift.shift_right.Given as goal

-- the bytes from i on are shifted down, and those below are as they were
abbrev pub invariant-loop-i : goal.invariant-loop-i
invariant-loop-i l = record {
  below : l.carry < l.radix;
  rest : take l.i l.bytes ≡ take l.i l.initial.bytes;
  row : drop l.i l.bytes ≡ right_row l.radix (drop l.i l.initial.bytes) l.initial.carry;
  out : l.carry ≡ right_out l.radix (drop l.i l.initial.bytes) l.initial.carry;
}
