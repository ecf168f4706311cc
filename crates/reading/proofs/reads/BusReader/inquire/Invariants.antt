use Rattle.std.proofs.Common.{◌≡◌, ◌-◌}
use Rattle.reading.specs.Readings.{stores_tree}
use Rattle.reading.specs.Trees.{came}
use Rattle.reading.proofs.Filling.{place}
use Rattle.reading.proofs.reads.BusReader.inquire.Given as goal

abbrev pub invariant-loop-i : goal.invariant-loop-i
invariant-loop-i g l = came (g.B.Bus.meaning l.self.bus.now) (stores_tree (l.n - l.i) (place l.address l.i)) ≡ came (g.B.Bus.meaning l.self.bus.now) (stores_tree l.n l.address)
