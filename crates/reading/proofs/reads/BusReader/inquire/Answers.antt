use Rattle.std.proofs.Common.{rules}
use Rattle.reading.proofs.Eights.{inquired_eight}
use Rattle.reading.proofs.reads.BusReader.inquire.Goals as goal

pub returns-then-takes_eight : goal.returns-then-takes_eight
returns-then-takes_eight g c = inquired_eight g.B.Bus.meaning c.args.self.now c.args.address (search rules) c.args.n (search rules) (c.takes_eight.ensures (search rules))
