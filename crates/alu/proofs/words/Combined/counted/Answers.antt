use Rattle.std.proofs.Common.{◌∙◌}
use Rattle.alu.specs.Lanes.{decimal_of}
use Rattle.alu.proofs.Lanes.{part_map}
use Rattle.alu.proofs.words.Combined.counted.Goals as goal

pub returns-clause-row : goal.returns-clause-row
returns-clause-row c =
    let r = c.args.self.row in
    c.with_word.ensures.bytes ∙ part_map decimal_of r.len r.word c.outcome_digits.result r.short c.outcome_digits.ensures
