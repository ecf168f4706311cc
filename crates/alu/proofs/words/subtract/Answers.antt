use Rattle.std.proofs.Common.{◌≡◌, ◌∙◌, length, refl, arith}
use Rattle.byte_rows.specs.Short.{bytes_of}
use Rattle.byte_rows.proofs.Lows.{length_low}
use Rattle.counting.specs.declared.Link.TheVariants.{Subtract}
use Rattle.alu.proofs.Wholes.{subtracted, borrowed, signs_of_rows}
use Rattle.alu.proofs.words.subtract.Goals as goal

pub returns-clause-row : goal.returns-clause-row
returns-clause-row c =
    let a = c.args.a.now in
    let b = c.args.b.now in
    c.with_word-row.ensures.bytes ∙ subtracted a.len a.word b.word b.len a.short a.cut c.requires b.cut a.len _ refl (omega arith)

pub returns-clause-carry : goal.returns-clause-carry
returns-clause-carry c =
    let a = c.args.a.now in
    let b = c.args.b.now in
    borrowed a.len a.word b.word b.len a.short a.cut c.requires b.cut

pub returns-clause-overflow : goal.returns-clause-overflow
returns-clause-overflow c =
    let a = c.args.a.now in
    let b = c.args.b.now in
    let l : length (bytes_of c.with_word-row.result) ≡ a.len = length_low _ _ ∙ c.with_word-row.ensures.len in
    c.overflows.ensures ∙ grind (arith, c.last.ensures, c.last-2.ensures, c.last-3.ensures, signs_of_rows Subtract a.len a.word b.len b.word (bytes_of c.with_word-row.result) c.requires l (returns-clause-row c))
