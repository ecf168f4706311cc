use Rattle.std.proofs.Common.{◌≡◌, replicate, ap, arith}
use Rattle.byte_rows.proofs.Writing.{is_zeros}
use Rattle.bus.specs.Kinds.{trunk_byte}
use Rattle.memory.proofs.memory.work.zero_trunks.Goals as goal

pub returns : goal.returns
returns c =
    let zero : trunk_byte c.from.result ≡ 0 = omega (arith, c.from.ensures) in
    is_zeros 16 _ (ap (replicate 16) zero)
