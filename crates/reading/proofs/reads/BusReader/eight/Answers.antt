use Rattle.std.proofs.Common.{rules}
use Rattle.reading.proofs.Eights.{told_before, told_not, read_eight}
use Rattle.reading.proofs.reads.BusReader.eight.Goals as goal

pub returns-then-is_clear : goal.returns-then-is_clear
returns-then-is_clear g c = read_eight g.B.Bus.meaning c.args.self.now c.args.address (search rules) _ (λ i l. search (rules, told_before, told_not)) c.read_eight.ensures
