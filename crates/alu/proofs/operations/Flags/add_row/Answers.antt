use Rattle.std.proofs.Common.{length, arith}
use Rattle.byte_rows.specs.Short.{bytes_of}
use Rattle.counting.specs.declared.Link.TheVariants.{Add}
use Rattle.alu.proofs.Wholes.{told_sized}
use Rattle.alu.proofs.Lanes.{sized_counts}
use Rattle.alu.proofs.operations.Flags.add_row.Goals as goal

pub sum_in-sum-requires-clause-operand : goal.sum_in-sum-requires-clause-operand
sum_in-sum-requires-clause-operand c = sized_counts c.args.self.status.dcm (length (bytes_of c.args.row.now)) c.args.operand.now c.size-operand.result c.size-operand.ensures.bytes c.requires.operand

pub returns : goal.returns
returns c = grind (arith, c.size-operand.ensures.bytes, c.sum_in-sum.ensures.row, c.sum_in-sum.ensures.carry, c.sum_in-sum.ensures.overflow, told_sized c.args.self.status.dcm Add c.args.self (λ b. b) (bytes_of c.args.row.now) (bytes_of c.args.operand.now))
