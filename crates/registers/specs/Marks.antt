-- The numbers of mars. A mar is the first part of the processor that an interrupt handler did not give back; registers are 0 to 63.
use Rattle.std.specs.Prelude.{ℕ}
use Rattle.registers.specs.declared.mar.Mar.{Mar}
use Rattle.registers.specs.declared.mar.Mar.TheVariants.{Register, Arp, Drp, Status, E}

abbrev pub mar_number : Mar → ℕ
mar_number (Register k) = k
mar_number Arp = 64
mar_number Drp = 65
mar_number Status = 66
mar_number E = 67
