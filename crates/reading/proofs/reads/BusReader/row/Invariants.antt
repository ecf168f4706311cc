use Rattle.reading.proofs.Filling.{Filling}
use Rattle.reading.proofs.reads.BusReader.row.Given as goal

abbrev pub invariant-loop-i : goal.invariant-loop-i
invariant-loop-i g l = Filling g.B.Bus.meaning l.initial.self l.initial.row l.initial.address l.row l.i l.self
