use Rattle.std.proofs.Common.{◌≡◌, length, arith, rules}
use Rattle.registers.proofs.Rows.{row_in_line}
use Rattle.registers.proofs.cpu.Cpu.in_line.Goals as goal

abbrev pub returns : goal.returns
returns c =
    let e : length c.args.self.now.registers ≡ 64 = search rules in
    grind (arith, row_in_line c.args.self.now.registers c.args.k 8 (omega arith) e)
