use Rattle.std.proofs.Common.{◌∙◌, rules}
use Rattle.byte_rows.proofs.Lows.{take_from}
use Rattle.byte_rows.proofs.row.Row.new.Goals as goal

abbrev pub returns : goal.returns
returns c = c.of_word.ensures.bytes ∙ take_from c.args.bytes c.args.n _ (search rules) (search rules) c.from_le_bytes.ensures
