use Rattle.std.proofs.Common.{rules}
use Rattle.std.proofs.lemmas.Bool.{eq-eqb, ne_eqb, not-true, not-false}
use Rattle.registers.proofs.cpu.differences.first_other.Goals as goal

pub returns-then-ne : goal.returns-then-ne
returns-then-ne c = search (rules, eq-eqb, not-true)

pub returns-then-s-t-3 : goal.returns-then-s-t-3
returns-then-s-t-3 c = search (rules, eq-eqb, ne_eqb, not-false)

pub returns-else-s-t-3 : goal.returns-else-s-t-3
returns-else-s-t-3 c = search (rules, eq-eqb, not-false)
