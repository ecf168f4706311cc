-- What RAM, ROM and the line board mean. Each refuses at depth 0, with "no byte" wherever it has none.
use Rattle.std.specs.Prelude.{ℕ, ◌+◌, ◌-◌, ◌*◌, Bool, cond, ◌&&◌, List, map, length, Ok, Err, Result, nat_le, nat_lt, slice_index}
use Rattle.bus.specs.declared.refusal.BusRefusal.{BusRefusal}
use Rattle.bus.specs.declared.refusal.Cause.TheVariants.{NoByte, RomStore}
use Rattle.bus.specs.declared.trunk.Trunk.{Trunk}
use Rattle.bus.specs.Meaning.{Meaning, here}

-- One of the n addresses from base on; bytes past 65,535 are not reached.
abbrev pub within : ℕ → ℕ → ℕ → Bool
within base n a = nat_le base a && (nat_lt (a - base) n && nat_lt a 65536)

-- Where the byte of an address lies.
abbrev pub place_of : ℕ → ℕ → ℕ → Result ℕ BusRefusal
place_of base n a = cond (within base n a) (Ok (a - base)) (Err (here NoByte))

-- n bytes that are read and stored: byte i is at base + i.
abbrev pub bytes_meaning : ℕ → ℕ → List ℕ → Meaning
bytes_meaning base n bs = record { reads = λ a. cond (within base n a) (Ok (slice_index bs (a - base))) (Err (here NoByte)); takes = λ a. cond (within base n a) (Ok tt) (Err (here NoByte)) }

-- RAM is read and stored.
abbrev pub ram_meaning : ℕ → List ℕ → Meaning
ram_meaning base bs = bytes_meaning base (length bs) bs

-- RAM has the n addresses from a on.
abbrev pub holds : ℕ → ℕ → ℕ → ℕ → Bool
holds base size a n = nat_le base a && (nat_le (a + n) 65536 && nat_le ((a - base) + n) size)

-- ROM reads as RAM does; a store to one of its bytes is a ROM store.
abbrev pub rom_meaning : ℕ → List ℕ → Meaning
rom_meaning base bs = record { reads = (ram_meaning base bs).reads; takes = λ a. cond (within base (length bs) a) (Err (here RomStore)) (Err (here NoByte)) }

-- A trunk reads as 16 times its class and its party.
abbrev pub trunk_byte : Trunk → ℕ
trunk_byte t = 16 * t.class + t.party

-- Sixteen trunks from base on.
abbrev pub board_meaning : ℕ → List Trunk → Meaning
board_meaning base ts = bytes_meaning base 16 (map trunk_byte ts)
