use Rattle.std.proofs.Common.{◌≡◌, ◌%◌, arith}
use Rattle.std.proofs.lemmas.Grind.{common_steps}
use Rattle.alu.specs.Shifts.{radix_of, left_row}
use Rattle.alu.proofs.Shifting.{left_whole}
use Rattle.alu.proofs.shift.shift_left.Goals as goal

pub returns-clause-whole : goal.returns-clause-whole
returns-clause-whole c =
    let row : c.loop-byte.bytes ≡ left_row (radix_of c.args.unit) c.args.bytes.now (c.args.incoming % radix_of c.args.unit) = grind (arith, common_steps) in
    grind (arith, common_steps, left_whole)
