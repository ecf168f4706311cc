use Rattle.std.proofs.Common.{ltb, true, ◌/◌, ◌%◌, arith}
use Rattle.std.proofs.lemmas.Bool.Decides.{nat_tests}
use Rattle.alu.proofs.Lanes.{all_told, all_words, digits_told}
use Rattle.alu.proofs.decimals.are_digits.Goals as goal

pub reach-high-requires-clause-bytes : goal.reach-high-requires-clause-bytes
reach-high-requires-clause-bytes c = all_told c.args.word (λ b. b / 16) (λ b. true) (λ b. ltb b 20) c.high_digits.result c.high_digits.ensures (λ b l q. grind (arith, nat_tests)) (all_words c.args.word)

pub reach-low-requires-clause-bytes : goal.reach-low-requires-clause-bytes
reach-low-requires-clause-bytes c = all_told c.args.word (λ b. b % 16) (λ b. true) (λ b. ltb b 20) c.low_digits.result c.low_digits.ensures (λ b l q. grind (arith, nat_tests)) (all_words c.args.word)

pub returns-then-high-eq0 : goal.returns-then-high-eq0
returns-then-high-eq0 c = grind (arith, nat_tests, c.if-high-eq0.true, digits_told c.args.word c.high_digits.result c.low_digits.result c.reach-high.result c.reach-low.result c.high_digits.ensures c.low_digits.ensures c.reach-high.ensures c.reach-low.ensures c.reach-high.type_inv c.reach-low.type_inv)

pub returns-else-high-eq0 : goal.returns-else-high-eq0
returns-else-high-eq0 c = grind (arith, nat_tests, c.if-high-eq0.false, digits_told c.args.word c.high_digits.result c.low_digits.result c.reach-high.result c.reach-low.result c.high_digits.ensures c.low_digits.ensures c.reach-high.ensures c.reach-low.ensures c.reach-high.type_inv c.reach-low.type_inv)
