use Rattle.std.proofs.Common.{ltb, arith}
use Rattle.std.proofs.lemmas.Bool.Decides.{nat_tests}
use Rattle.alu.proofs.Lanes.{each_added}
use Rattle.alu.proofs.decimals.raise.Goals as goal

pub returns : goal.returns
returns c = each_added 156 (λ b. ltb b 100) c.args.word (λ b l q. grind (arith, nat_tests)) c.ranges.word.fits c.requires
