use Rattle.std.proofs.Common.{not, length, arith}
use Rattle.byte_rows.specs.Short.{bytes_of}
use Rattle.counting.specs.declared.Link.TheVariants.{Subtract}
use Rattle.alu.proofs.Wholes.{told_sized}
use Rattle.alu.proofs.Lanes.{sized_counts}
use Rattle.alu.proofs.operations.Flags.lessen_row.Goals as goal

pub difference_in-difference-requires-clause-operand : goal.difference_in-difference-requires-clause-operand
difference_in-difference-requires-clause-operand c = sized_counts c.args.self.status.dcm (length (bytes_of c.args.row.now)) c.args.operand.now c.size-operand.result c.size-operand.ensures.bytes c.requires.operand

pub returns : goal.returns
returns c = grind (arith, c.size-operand.ensures.bytes, c.difference_in-difference.ensures.row, c.difference_in-difference.ensures.carry, c.difference_in-difference.ensures.overflow, told_sized c.args.self.status.dcm Subtract c.args.self (not) (bytes_of c.args.row.now) (bytes_of c.args.operand.now))
