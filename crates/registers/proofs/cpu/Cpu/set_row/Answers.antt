use Rattle.std.proofs.Common.{◌≡◌, length, arith, rules}
use Rattle.byte_rows.specs.Short.{bytes_of}
use Rattle.registers.proofs.Rows.{row_fills, with_in_line}
use Rattle.registers.proofs.cpu.Cpu.set_row.Goals as goal

abbrev pub returns-in-8 : goal.returns-in-8
returns-in-8 c =
    let n : length c.bytes-bytes.result ≡ 8 = search rules in
    let b = row_fills (bytes_of c.args.row) c.bytes-bytes.result c.bytes-bytes.ensures.bytes (omega (arith, c.len.ensures.value)) in
    grind (arith, b, with_in_line c.args.self.now.registers c.args.k (bytes_of c.args.row) (omega (arith, c.len.ensures.value)))
