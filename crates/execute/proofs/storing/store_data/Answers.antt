use Rattle.std.proofs.Common.{Err, ap, ◌∙◌, rules}
use Rattle.std.proofs.lemmas.Result.{err_from_is_err_and}
use Rattle.registers.specs.Model.{state_of}
use Rattle.reading.specs.Trees.{map_ok}
use Rattle.reading.proofs.Laws.{then, stops}
use Rattle.execute.specs.Models.{plan_of}
use Rattle.execute.proofs.storing.store_data.Goals as goal

pub returns-in_err-inquire-clause-outcome : goal.returns-in_err-inquire-clause-outcome
returns-in_err-inquire-clause-outcome g c =
    let z = err_from_is_err_and c.from_residual.result c.from_residual.ensures.1 in
    stops g.B.Bus.meaning _ _ _ _ _ _ _ c.in_err-inquire.was (ap (map_ok (plan_of (state_of c.args.cpu.now))) (z.1 ∙ ap Err z.2)) (rw (c.len.ensures.value, c.row-bytes.ensures) at c.inquire.ensures)

pub returns-clause-outcome : goal.returns-clause-outcome
returns-clause-outcome g c =
    then g.B.Bus.meaning _ _ _ _ _ _ _ _ c.in_ok-inquire.was (rw (c.len.ensures.value, c.row-bytes.ensures) at c.inquire.ensures) (search rules)
