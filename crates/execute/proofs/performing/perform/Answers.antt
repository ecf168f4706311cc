use Rattle.std.proofs.Common.{Err, refl, ap, ◌∙◌, rules}
use Rattle.std.proofs.lemmas.Result.{err_from_is_err_and}
use Rattle.registers.specs.Model.{state_of}
use Rattle.reading.specs.Trees.{map_ok}
use Rattle.execute.specs.Models.{plan_of}
use Rattle.execute.proofs.Coded.{went_on, went_at_once, alone_on, alone_at_once, stopped}
use Rattle.execute.proofs.Putting.{put_back_if_refused}
use Rattle.execute.proofs.performing.perform.Goals as goal

pub returns-in_err-literal-in-Compute-clause-outcome : goal.returns-in_err-literal-in-Compute-clause-outcome
returns-in_err-literal-in-Compute-clause-outcome g c =
    let z = err_from_is_err_and c.from_residual.result c.from_residual.ensures.1 in
    stopped g.B.Bus.meaning _ _ _ _ _ _ _ c.in-Compute.is (ap (map_ok (plan_of (state_of c.fetch_literal.new.cpu))) (z.1 ∙ ap Err z.2)) c.in_err-literal-in-Compute.ensures.outcome

pub returns-in_err-literal-in-Store-clause-outcome : goal.returns-in_err-literal-in-Store-clause-outcome
returns-in_err-literal-in-Store-clause-outcome g c =
    let z = err_from_is_err_and c.from_residual-in_err-literal-in-Store.result c.from_residual-in_err-literal-in-Store.ensures.1 in
    stopped g.B.Bus.meaning _ _ _ _ _ _ _ c.in-Store.is (ap (map_ok (plan_of (state_of c.fetch_literal-in-Store.new.cpu))) (z.1 ∙ ap Err z.2)) c.in_err-literal-in-Store.ensures.outcome

pub returns-in_err-literal-in-Call-clause-outcome : goal.returns-in_err-literal-in-Call-clause-outcome
returns-in_err-literal-in-Call-clause-outcome g c =
    let z = err_from_is_err_and c.from_residual-in_err-literal-in-Call.result c.from_residual-in_err-literal-in-Call.ensures.1 in
    stopped g.B.Bus.meaning _ _ _ _ _ _ _ c.in-Call.is (ap (map_ok (plan_of (state_of c.fetch_literal-in-Call.new.cpu))) (z.1 ∙ ap Err z.2)) c.in_err-literal-in-Call.ensures.outcome

pub returns-in_err-literal-in-Jump-clause-outcome : goal.returns-in_err-literal-in-Jump-clause-outcome
returns-in_err-literal-in-Jump-clause-outcome g c =
    let z = err_from_is_err_and c.from_residual-in_err-literal-in-Jump.result c.from_residual-in_err-literal-in-Jump.ensures.1 in
    stopped g.B.Bus.meaning _ _ _ _ _ _ _ c.in-Jump.is (ap (map_ok (plan_of (state_of c.fetch_literal-in-Jump.new.cpu))) (z.1 ∙ ap Err z.2)) c.in_err-literal-in-Jump.ensures.outcome

pub returns-in_ok-literal-in-Compute-clause-outcome : goal.returns-in_ok-literal-in-Compute-clause-outcome
returns-in_ok-literal-in-Compute-clause-outcome g c = went_on g.B.Bus.meaning _ _ _ _ c.in_ok-literal-in-Compute.literal _ _ _ _ c.in-Compute.is c.in_ok-literal-in-Compute.ensures.passed c.in_ok-literal-in-Compute.ensures.outcome c.compute.ensures.outcome

pub returns-in_ok-literal-in-Call-clause-outcome : goal.returns-in_ok-literal-in-Call-clause-outcome
returns-in_ok-literal-in-Call-clause-outcome g c = went_on g.B.Bus.meaning _ _ _ _ c.in_ok-literal-in-Call.literal _ _ _ _ c.in-Call.is c.in_ok-literal-in-Call.ensures.passed c.in_ok-literal-in-Call.ensures.outcome c.call.ensures.outcome

pub returns-in_ok-literal-in-Store-clause-outcome : goal.returns-in_ok-literal-in-Store-clause-outcome
returns-in_ok-literal-in-Store-clause-outcome g c = went_on g.B.Bus.meaning _ _ _ _ c.in_ok-literal-in-Store.literal _ _ _ _ c.in-Store.is c.in_ok-literal-in-Store.ensures.passed c.in_ok-literal-in-Store.ensures.outcome (rw (c.pc-after.ensures) at c.store.ensures.outcome)

pub returns-in_ok-literal-in-Jump-clause-outcome : goal.returns-in_ok-literal-in-Jump-clause-outcome
returns-in_ok-literal-in-Jump-clause-outcome g c = went_at_once g.B.Bus.meaning _ _ _ _ c.in_ok-literal-in-Jump.literal _ _ _ _ c.in-Jump.is c.in_ok-literal-in-Jump.ensures.passed c.in_ok-literal-in-Jump.ensures.outcome refl (search rules)

pub returns-in-SetArp-clause-outcome : goal.returns-in-SetArp-clause-outcome
returns-in-SetArp-clause-outcome g c = alone_at_once g.B.Bus.meaning _ _ _ _ _ _ _ c.in-SetArp.is refl c.pass_code.ensures refl (search rules)

pub returns-in-SetDrp-clause-outcome : goal.returns-in-SetDrp-clause-outcome
returns-in-SetDrp-clause-outcome g c = alone_at_once g.B.Bus.meaning _ _ _ _ _ _ _ c.in-SetDrp.is refl c.pass_code-in-SetDrp.ensures refl (search rules)

pub returns-in-Control-clause-outcome : goal.returns-in-Control-clause-outcome
returns-in-Control-clause-outcome g c = alone_on g.B.Bus.meaning _ _ _ _ _ _ _ c.in-Control.is refl c.pass_code-in-Control.ensures c.control.ensures.outcome

pub returns-in-Control-clause-refused : goal.returns-in-Control-clause-refused
returns-in-Control-clause-refused g c = put_back_if_refused c.control.result _ _ _ _ c.control.ensures.refused c.pass_code-in-Control.ensures
