-- The buses that the theorem speaks of.
use Rattle.std.specs.Prelude.{ℕ, List}
use Rattle.bus.specs.declared.trunk.Trunk.{Trunk}
use Rattle.bus.specs.Kinds.{ram_meaning, rom_meaning, board_meaning}
use Rattle.bus.specs.Rules.{Rules}

-- RAM, ROM and the line board keep the bus rules.
pub record BottomsAreBuses : Type 0 where
  pub ram : (base : ℕ) (bytes : List ℕ) → Rules (ram_meaning base bytes)
  pub rom : (base : ℕ) (bytes : List ℕ) → Rules (rom_meaning base bytes)
  pub board : (base : ℕ) (trunks : List Trunk) → Rules (board_meaning base trunks)
