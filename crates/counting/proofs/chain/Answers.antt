use Rattle.std.proofs.Common.{arith}
use Rattle.std.proofs.lemmas.Grind.{common_steps}
use Rattle.counting.proofs.Numbers.{whole, counts}
use Rattle.counting.proofs.chain.Goals as goal

pub returns-clause-whole : goal.returns-clause-whole
returns-clause-whole g c h k l = whole g.C.Counting.system g.met.C.Counting.sound c.args.bytes.now c.args.operand.now c.args.carry h k l c.args.op c.loop-i.bytes c.loop-i.carry (grind (arith, common_steps)) (grind (arith, common_steps))

pub returns-clause-one : goal.returns-clause-one
returns-clause-one g c h long e f = counts g.C.Counting.system g.met.C.Counting.sound c.args.op c.args.bytes.now c.args.operand.now c.loop-i.bytes c.args.carry c.loop-i.carry h long e f (grind (arith, common_steps)) (grind (arith, common_steps))
