-- The HP-87 processor as a processor of steps and rings.
use Rattle.std.specs.Prelude.{ℕ, List, Option, ◌==◌}
use Rattle.bus.specs.Meaning.{Meaning}
use Rattle.registers.specs.Differences.{mar_of}
use Rattle.registers.specs.State.{State, pc_of}
use Rattle.decode.specs.declared.instruction.Base.TheVariants.{Literal}
use Rattle.reading.specs.Trees.{Tree, bind}
use Rattle.reading.specs.Readings.{row_tree}
use Rattle.execute.specs.Plans.{Plan, settled}
use Rattle.execute.specs.States.{return_pointer}
use Rattle.execute.specs.Instructions.{called, plan_tree}
use Rattle.stains.specs.Stores.{upward}
use Rattle.noninterference.specs.Processors.{Processor}
use Rattle.noninterference.specs.Steps.{State as ExchangeState}

-- A ring acts as JSB to the pair at the vector: as if the two bytes there stood after the code of a literal JSB.
abbrev pub jump_tree : ℕ → State → Tree Plan
jump_tree v s = bind (row_tree 2 v) (λ ls. settled (called Literal s ls))

abbrev pub machine : Processor
machine = record {
  Cpu = State;
  Plan = Plan;
  after = λ p. p.after;
  stores = λ p. upward p.at p.bytes;
  size = λ p. p.size;
  returns = λ p. p.returns;
  plan = plan_tree;
  jump = jump_tree;
  place = pc_of;
  level = λ s t. (return_pointer s == return_pointer t);
  mar = mar_of;
}

-- An exchange in service by its parts.
abbrev pub at_service : State → Option State → List ℕ → Meaning → ExchangeState machine
at_service s visit sheet m = record { cpu = s; visit = visit; sheet = sheet; meaning = m }
