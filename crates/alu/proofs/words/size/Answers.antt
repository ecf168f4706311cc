use Rattle.std.proofs.Common.{◌∙◌, length, ap, sym}
use Rattle.byte_rows.specs.Short.{low_bytes, bytes_of}
use Rattle.byte_rows.proofs.Lows.{length_low}
use Rattle.alu.proofs.Wholes.{sized_low}
use Rattle.alu.proofs.words.size.Goals as goal

pub returns-clause-bytes : goal.returns-clause-bytes
returns-clause-bytes c =
    let row = c.args.row.now in
    let operand = c.args.operand.now in
    c.with_word.ensures.bytes ∙ ap (λ n. low_bytes n operand.word) (sym (length_low row.len row.word)) ∙ sym (sized_low (length (bytes_of row)) operand.len operand.word operand.cut)
