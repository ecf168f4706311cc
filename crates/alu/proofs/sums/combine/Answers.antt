use Rattle.std.proofs.Common.{rules}
use Rattle.counting.proofs.Binaries.{bytes_lawful}
use Rattle.alu.proofs.Signs.{signs_tell}
use Rattle.alu.proofs.sums.combine.Goals as goal

pub returns-clause-overflow : goal.returns-clause-overflow
returns-clause-overflow c =
    let e = signs_tell c.args.bytes.now c.args.operand.now (bytes_lawful _ (λ i l. search rules)) (bytes_lawful _ (λ i l. search rules)) c.args.op c.chain-carry-2.new.bytes c.chain-carry-2.ensures.row in
    rw c.if-decimal.false (cc)
