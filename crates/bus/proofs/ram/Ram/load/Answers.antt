use Rattle.std.proofs.Common.{arith, is_ok}
use Rattle.std.proofs.lemmas.Grind.{common_steps}
use Rattle.bus.proofs.Loads.{ram_load}
use Rattle.bus.proofs.ram.Ram.load.Goals as goal

pub returns-clause-meaning : goal.returns-clause-meaning
returns-clause-meaning c = ram_load _ c.args.address c.args.self.now.bytes.items _ c.args.bytes.now (is_ok c.overwrite.result) (grind (arith, common_steps)) (grind (arith, common_steps))
