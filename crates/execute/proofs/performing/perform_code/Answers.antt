use Rattle.std.proofs.Common.{Err}
use Rattle.registers.specs.Model.{state_of}
use Rattle.reading.proofs.Laws.{at_once}
use Rattle.execute.proofs.Coded.{of_code, of_no_code}
use Rattle.execute.proofs.performing.perform_code.Goals as goal

pub returns-in-Some-clause-outcome : goal.returns-in-Some-clause-outcome
returns-in-Some-clause-outcome g c = rw (of_code c.args.code (state_of c.args.cpu.now) c.in-Some.instruction c.in-Some.ensures) c.perform.ensures.outcome

pub returns-in-None-clause-outcome : goal.returns-in-None-clause-outcome
returns-in-None-clause-outcome g c = rw (of_no_code c.args.code (state_of c.args.cpu.now) c.in-None.ensures) (at_once g.B.Bus.meaning (Err _) _)
