use Rattle.std.proofs.Common.{◌≡◌, ◌++◌, take, drop}
use Rattle.counting.specs.Chain.{row_of, carry_of}
use Rattle.counting.proofs.chain.Given as goal

-- the first i bytes are done, and what is left comes to what there was
abbrev pub invariant-loop-i : goal.invariant-loop-i
invariant-loop-i g l = record {
  row : take l.i l.bytes ++ row_of g.C.Counting.system l.op (drop l.i l.bytes) (drop l.i l.operand) l.carry ≡ row_of g.C.Counting.system l.op l.initial.bytes l.operand l.initial.carry;
  carry : carry_of g.C.Counting.system l.op (drop l.i l.bytes) (drop l.i l.operand) l.carry ≡ carry_of g.C.Counting.system l.op l.initial.bytes l.operand l.initial.carry;
}
