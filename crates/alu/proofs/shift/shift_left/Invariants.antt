use Rattle.std.proofs.Common.{◌≡◌, ◌<◌, ◌++◌, take, drop}
use Rattle.alu.specs.Shifts.{left_row, left_out}
use Rattle.alu.proofs.shift.shift_left.Given as goal

-- the bytes so far are shifted up, and what is left comes to what there was
abbrev pub invariant-loop-byte : goal.invariant-loop-byte
invariant-loop-byte l = record {
  below : l.carry < l.radix;
  row : take l.byte-index l.bytes ++ left_row l.radix (drop l.byte-index l.bytes) l.carry ≡ left_row l.radix l.initial.bytes l.initial.carry;
  out : left_out l.radix (drop l.byte-index l.bytes) l.carry ≡ left_out l.radix l.initial.bytes l.initial.carry;
}
