use Rattle.std.proofs.Common.{arith, rules}
use Rattle.std.proofs.lemmas.Grind.{common_steps}
use Rattle.text.proofs.Writing.{joined_none, joined_push}
use Rattle.text.proofs.put.Goals as goal

pub loop-piece-init : goal.loop-piece-init
loop-piece-init c = search (rules, joined_none)

pub loop-piece-preserved : goal.loop-piece-preserved
loop-piece-preserved c = (search (rules, joined_push), grind (arith, common_steps))
