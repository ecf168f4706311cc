use Rattle.std.proofs.Common.{◌∙◌, refl, sym}
use Rattle.alu.proofs.Values.{values_row, operand_row, difference_is, difference_digits, difference_out}
use Rattle.alu.proofs.decimals.subtract_decimals.Goals as goal

pub counted-requires : goal.counted-requires
counted-requires c =
    let a = c.args.a.now in
    let b = c.args.b.now in
    difference_is a b c.requires.same c.requires.data c.requires.operand _ _
    (c.with_word.ensures.bytes ∙ values_row a b c.requires.same c.requires.data c.requires.operand _ c.values.result refl c.values.ensures)
    (c.with_word-2.ensures.bytes ∙ operand_row a b c.requires.same c.requires.data c.requires.operand _ c.values-2.result (sym c.requires.same) c.values-2.ensures)
    c.subtract-difference.result.row c.subtract-difference.ensures.row

pub returns-clause-row : goal.returns-clause-row
returns-clause-row c =
    let a = c.args.a.now in
    let b = c.args.b.now in
    c.counted.ensures.row ∙ difference_digits a b c.requires.same c.requires.data c.requires.operand _ _
    (c.with_word.ensures.bytes ∙ values_row a b c.requires.same c.requires.data c.requires.operand _ c.values.result refl c.values.ensures)
    (c.with_word-2.ensures.bytes ∙ operand_row a b c.requires.same c.requires.data c.requires.operand _ c.values-2.result (sym c.requires.same) c.values-2.ensures)
    _ c.subtract-difference.ensures.row

pub returns-clause-carry : goal.returns-clause-carry
returns-clause-carry c =
    let a = c.args.a.now in
    let b = c.args.b.now in
    c.counted.ensures.carry ∙ c.subtract-difference.ensures.carry ∙ difference_out a b c.requires.same c.requires.data c.requires.operand _ _
    (c.with_word.ensures.bytes ∙ values_row a b c.requires.same c.requires.data c.requires.operand _ c.values.result refl c.values.ensures)
    (c.with_word-2.ensures.bytes ∙ operand_row a b c.requires.same c.requires.data c.requires.operand _ c.values-2.result (sym c.requires.same) c.values-2.ensures)
