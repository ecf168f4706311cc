use Rattle.std.proofs.Common.{ltb, ◌*◌}
use Rattle.alu.specs.Lanes.{reached, rest}
use Rattle.alu.proofs.Lanes.{each_less, rest_balance}
use Rattle.alu.proofs.decimals.part.Goals as goal

pub returns-clause-rest : goal.returns-clause-rest
returns-clause-rest c =
    let k = c.args.k in
    each_less k (reached k) (rest k) (λ b. ltb b (2 * k)) c.args.word c.reach-reached.result (λ b l q. rest_balance k b) c.ranges.word.fits c.reach-reached.type_inv c.reach-reached.ensures c.requires.bytes
