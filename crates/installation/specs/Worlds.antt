-- An exchange with its memory and its sheet, at each phase.
use Rattle.std.specs.Prelude.{ℕ, List}
use Rattle.bus.specs.Meaning.{Meaning}
use Rattle.memory.specs.Pile.{meaning_of}
use Rattle.noninterference.specs.Steps.{State as ExchangeState}
use Rattle.engine.specs.Machine.{machine}
use Rattle.engine.specs.States.{in_service}
use Rattle.installation.specs.declared.installation.Installation.{Installation}
use Rattle.installation.specs.declared.installation.Phase.{Phase}
use Rattle.installation.specs.declared.installation.Phase.TheVariants as phase

-- Before GO and after the read-out there is a sheet and what the memory means; in between there is the exchange on them.
pub data World : Type 0 where
  cold : List ℕ → Meaning → World
  live : ExchangeState machine → World
  over : List ℕ → Meaning → World

abbrev pub world_at : Phase → List ℕ → Meaning → World
world_at (phase.Loading c) sheet m = cold sheet m
world_at (phase.InService l) sheet m = live (in_service l sheet m)
world_at phase.Over sheet m = over sheet m

-- An installation by its parts.
abbrev pub world_of : Installation → World
world_of i = world_at i.phase i.sheet (meaning_of i.memory)
