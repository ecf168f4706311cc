use Rattle.std.proofs.Common.{◌/◌, arith}
use Rattle.std.proofs.lemmas.Bool.Decides.{nat_tests}
use Rattle.alu.specs.Lanes.{is_outcome, lowered}
use Rattle.alu.proofs.Lanes.{each_less}
use Rattle.alu.proofs.decimals.lower.Goals as goal

pub returns : goal.returns
returns c = each_less 156 (λ b. b / 128) lowered is_outcome c.args.word c.top_bits.result (λ b l q. grind (arith, nat_tests)) c.ranges.word.fits c.top_bits.type_inv c.top_bits.ensures c.requires
