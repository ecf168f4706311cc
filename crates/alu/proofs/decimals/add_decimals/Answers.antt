use Rattle.std.proofs.Common.{◌∙◌, ltb, refl, sym, arith}
use Rattle.std.proofs.lemmas.Bool.Decides.{nat_tests}
use Rattle.counting.specs.Decimal.{decimal, two_digits}
use Rattle.alu.proofs.Lanes.{all_told}
use Rattle.alu.proofs.Values.{raised_row, operand_row, sum_is, sum_digits, sum_out}
use Rattle.alu.proofs.decimals.add_decimals.Goals as goal

pub raise-requires : goal.raise-requires
raise-requires c = all_told c.args.a.now.word decimal.value two_digits (λ b. ltb b 100) c.values.result c.values.ensures (λ b l q. grind (arith, nat_tests)) c.requires.data

pub counted-requires : goal.counted-requires
counted-requires c =
    let a = c.args.a.now in
    let b = c.args.b.now in
    sum_is a b c.requires.same c.requires.data c.requires.operand _ _
    (c.with_word.ensures.bytes ∙ raised_row a b c.requires.same c.requires.data c.requires.operand _ c.values.result c.raise.result refl c.values.ensures c.raise.ensures)
    (c.with_word-2.ensures.bytes ∙ operand_row a b c.requires.same c.requires.data c.requires.operand _ c.values-2.result (sym c.requires.same) c.values-2.ensures)
    c.add-sum.result.row c.add-sum.ensures.row

pub returns-clause-row : goal.returns-clause-row
returns-clause-row c =
    let a = c.args.a.now in
    let b = c.args.b.now in
    c.counted.ensures.row ∙ sum_digits a b c.requires.same c.requires.data c.requires.operand _ _
    (c.with_word.ensures.bytes ∙ raised_row a b c.requires.same c.requires.data c.requires.operand _ c.values.result c.raise.result refl c.values.ensures c.raise.ensures)
    (c.with_word-2.ensures.bytes ∙ operand_row a b c.requires.same c.requires.data c.requires.operand _ c.values-2.result (sym c.requires.same) c.values-2.ensures)
    _ c.add-sum.ensures.row

pub returns-clause-carry : goal.returns-clause-carry
returns-clause-carry c =
    let a = c.args.a.now in
    let b = c.args.b.now in
    c.counted.ensures.carry ∙ c.add-sum.ensures.carry ∙ sum_out a b c.requires.same c.requires.data c.requires.operand _ _
    (c.with_word.ensures.bytes ∙ raised_row a b c.requires.same c.requires.data c.requires.operand _ c.values.result c.raise.result refl c.values.ensures c.raise.ensures)
    (c.with_word-2.ensures.bytes ∙ operand_row a b c.requires.same c.requires.data c.requires.operand _ c.values-2.result (sym c.requires.same) c.values-2.ensures)
