use Rattle.std.proofs.Common.{ltb, arith}
use Rattle.std.proofs.lemmas.Bool.Decides.{nat_tests}
use Rattle.counting.specs.Decimal.{decimal}
use Rattle.alu.specs.Lanes.{is_outcome, lowered}
use Rattle.alu.proofs.Lanes.{all_told, map_again}
use Rattle.alu.proofs.decimals.outcome_digits.Goals as goal

pub digits-requires : goal.digits-requires
digits-requires c = all_told c.args.word lowered is_outcome (λ b. ltb b 100) c.lower.result c.lower.ensures (λ b l q. grind (arith, nat_tests)) c.requires

pub returns : goal.returns
returns c = map_again c.args.word lowered decimal.byte c.lower.result c.digits.result c.lower.ensures c.digits.ensures
