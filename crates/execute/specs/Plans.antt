-- What an instruction comes to once all is read: the processor's state after it, its stores, its size in bytes, and whether it is RTN.
use Rattle.std.specs.Prelude.{ℕ, Bool, true, false, List, [], length}
use Rattle.registers.specs.State.{State}
use Rattle.reading.specs.Trees.{Tree, done, bind}
use Rattle.reading.specs.Readings.{stores_tree}

pub record Plan : Type 0 where
  pub after : State
  -- The bytes are stored upward from the address.
  pub at : ℕ
  pub bytes : List ℕ
  pub size : ℕ
  pub returns : Bool

-- Nothing is stored, by an instruction of l bytes.
abbrev pub still : ℕ → State → Plan
still l s = record { after = s; at = 0; bytes = []; size = l; returns = false }

-- RTN stores nothing.
abbrev pub returning : ℕ → State → Plan
returning l s = record (still l s) { returns = true }

-- The bytes are stored from the address a on.
abbrev pub storing : ℕ → ℕ → List ℕ → State → Plan
storing l a bs s = record (still l s) { at = a; bytes = bs }

-- Every store is inquired about, upward, before anything is written.
abbrev pub settled : Plan → Tree Plan
settled p = bind (stores_tree (length p.bytes) p.at) (λ _. done p)
