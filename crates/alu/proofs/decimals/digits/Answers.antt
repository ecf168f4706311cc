use Rattle.std.proofs.Common.{◌/◌, ltb, sym, map-id, arith}
use Rattle.std.proofs.lemmas.Bool.Decides.{nat_tests}
use Rattle.counting.specs.Decimal.{decimal}
use Rattle.alu.proofs.Lanes.{each_sum}
use Rattle.alu.proofs.decimals.digits.Goals as goal

pub returns : goal.returns
returns c = each_sum c.args.word 6 (λ b. b) (λ b. b / 10) decimal.byte (λ b. ltb b 100) c.args.word c.tens.result (λ b l q. omega arith) (λ b l q. grind (arith, nat_tests)) c.ranges.word.fits c.tens.type_inv (sym (map-id _)) c.tens.ensures c.requires
