use Rattle.std.proofs.Common.{Err, ap, ◌∙◌}
use Rattle.std.proofs.lemmas.Result.{err_from_is_err_and}
use Rattle.byte_rows.specs.Short.{bytes_of}
use Rattle.registers.specs.Model.{state_of}
use Rattle.reading.specs.Trees.{map_ok}
use Rattle.reading.proofs.Laws.{then, stops, at_once}
use Rattle.execute.specs.Models.{plan_of}
use Rattle.execute.proofs.computing.compute.Goals as goal

pub returns-in_err-operand-clause-outcome : goal.returns-in_err-operand-clause-outcome
returns-in_err-operand-clause-outcome g c =
    let z = err_from_is_err_and c.from_residual.result c.from_residual.ensures.1 in
    stops g.B.Bus.meaning _ _ _ _ _ _ _ (ap (map_ok bytes_of) c.in_err-operand.was) (ap (map_ok (plan_of (state_of c.args.cpu.now))) (z.1 ∙ ap Err z.2)) c.read_operand.ensures

pub returns-clause-outcome : goal.returns-clause-outcome
returns-clause-outcome g c =
    then g.B.Bus.meaning _ _ (bytes_of c.in_ok-operand.operand) _ _ _ _ _ (ap (map_ok bytes_of) c.in_ok-operand.was) c.read_operand.ensures (rw c.compute_with.ensures.outcome (at_once g.B.Bus.meaning _ _))
