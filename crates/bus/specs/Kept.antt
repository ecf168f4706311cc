-- RAM, ROM and the line board keep the bus rules. These proofs stand here since a bus's ghost member may cite only specs/.
use Rattle.std.specs.Prelude.{ℕ, List, length}
use Rattle.std.proofs.Common.{arith}
use Rattle.bus.specs.Rules.{Rules}
use Rattle.bus.specs.Kinds.{bytes_meaning, ram_meaning, rom_meaning}

pub bytes_rules : (base n : ℕ) (bs : List ℕ) → Rules (bytes_meaning base n bs)
bytes_rules base n bs = record {
  readable = λ a h. grind arith;
  read_depth = λ a. grind arith;
  store_depth = λ a. grind arith;
}

pub ram_rules : (base : ℕ) (bs : List ℕ) → Rules (ram_meaning base bs)
ram_rules base bs = bytes_rules base (length bs) bs

pub rom_rules : (base : ℕ) (bs : List ℕ) → Rules (rom_meaning base bs)
rom_rules base bs = record {
  readable = λ a h. grind arith;
  read_depth = λ a. grind arith;
  store_depth = λ a. grind arith;
}
