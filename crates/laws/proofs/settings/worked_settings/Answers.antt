use Rattle.std.proofs.Common.{arith}
use Rattle.registers.specs.Model.{state_of}
use Rattle.laws.proofs.ByHand.{by_hand}
use Rattle.laws.proofs.settings.worked_settings.Goals as goal

pub returns-clause-settings : goal.returns-clause-settings
returns-clause-settings c = by_hand (state_of c.args.cpu.now) (omega arith) c.worked_examples.ensures
