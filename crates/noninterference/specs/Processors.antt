-- A processor, as far as steps and rings see it: an instruction is what it asks of the bus, and the plan that comes of it.
-- Nothing here knows of any instruction, so that what is proved holds of every processor of this form.
use Rattle.std.specs.Prelude.{ℕ, Bool, List, Option}
use Rattle.registers.specs.declared.mar.Mar.{Mar}
use Rattle.reading.specs.Trees.{Tree}
use Rattle.stains.specs.Stores.{Store}

pub record Processor : Type 1 where
  -- All registers, pointers, status and E.
  pub Cpu : Type 0
  -- What an instruction does once it has read all that it asks for and none of its checks failed.
  pub Plan : Type 0
  -- What a plan leaves of the processor, the stores that it makes, how long its instruction is, and whether it is RTN.
  pub after : Plan → Cpu
  pub stores : Plan → List Store
  pub size : Plan → ℕ
  pub returns : Plan → Bool
  -- What the next instruction asks of the bus, and what the subroutine jump to the pair at a vector asks.
  pub plan : Cpu → Tree Plan
  pub jump : ℕ → Cpu → Tree Plan
  -- The program counter.
  pub place : Cpu → ℕ
  -- Whether the return pointers of two states are equal, and the first part in which two states differ.
  pub level : Cpu → Cpu → Bool
  pub mar : Cpu → Cpu → Option Mar
