-- Loading a cold exchange.
use Rattle.std.specs.Prelude.{ℕ, ◌+◌, cond, List, length, Ok, Err, Result, ◌==◌, nat_le}
use Rattle.bus.specs.Meaning.{Meaning, loaded}
use Rattle.noninterference.specs.declared.refusal.Description.{Description}
use Rattle.noninterference.specs.declared.refusal.Detail.TheVariants.{None}
use Rattle.engine.specs.declared.cold.LoadFault.{LoadFault}
use Rattle.engine.specs.declared.cold.LoadFault.TheVariants.{Empty, PastMemory}

-- Both are refusal 13, without a detail.
abbrev pub load_described : LoadFault → Description
load_described Empty = record { number = 13; detail = None }
load_described PastMemory = record { number = 13; detail = None }

-- The number alone.
abbrev pub load_number : LoadFault → ℕ
load_number f = (load_described f).number

-- A load of no bytes is refused, then one that passes the memory's end.
abbrev pub load_answer : ℕ → ℕ → ℕ → Result (Unit {0}) LoadFault
load_answer room a n = cond (n == 0) (Err Empty) (cond (nat_le (a + n) room) (Ok tt) (Err PastMemory))

-- A load that is taken puts all its bytes into the memory; a refused one changes nothing.
abbrev pub loaded_by : Result (Unit {0}) LoadFault → ℕ → List ℕ → Meaning → Meaning
loaded_by (Ok _) a bs m = loaded m a bs
loaded_by (Err _) a bs m = m

-- What the memory, which ends at `room`, means after a load.
abbrev pub load_after : ℕ → ℕ → List ℕ → Meaning → Meaning
load_after room a bs m = loaded_by (load_answer room a (length bs)) a bs m
