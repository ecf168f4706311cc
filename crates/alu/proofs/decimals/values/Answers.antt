use Rattle.std.proofs.Common.{◌/◌, true, arith}
use Rattle.counting.specs.Decimal.{decimal}
use Rattle.alu.proofs.Lanes.{each_less, all_words}
use Rattle.alu.proofs.decimals.values.Goals as goal

pub returns : goal.returns
returns c = each_less 6 (λ b. b / 16) decimal.value (λ b. true) c.args.word c.high_digits.result (λ b l q. omega arith) c.ranges.word.fits c.high_digits.type_inv c.high_digits.ensures (all_words c.args.word)
