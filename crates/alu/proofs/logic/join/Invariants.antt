use Rattle.std.proofs.Common.{◌≡◌, ◌++◌, take, drop}
use Rattle.alu.specs.Logic.{joined_row}
use Rattle.alu.proofs.logic.join.Given as goal

-- the first i bytes are joined, and what is left comes to what there was
abbrev pub invariant-loop-i : goal.invariant-loop-i
invariant-loop-i l = take l.i l.bytes ++ joined_row l.op (drop l.i l.bytes) (drop l.i l.operand) ≡ joined_row l.op l.initial.bytes l.operand
