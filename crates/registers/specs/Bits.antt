-- The status bits.
use Rattle.std.specs.Prelude.{ℕ, ◌+◌, ◌*◌, Bool, true, false}
use Rattle.registers.specs.declared.status.Status.{Status}

-- A bit as a number.
abbrev pub bit_of : Bool → ℕ
bit_of true = 1
bit_of false = 0

-- The status as a byte: from bit 0 on DCM, CY, OVF, LSB, MSB, Z, LDZ, RDZ.
abbrev pub status_byte : Status → ℕ
status_byte s = bit_of s.dcm + 2 * bit_of s.cy + 4 * bit_of s.ovf + 8 * bit_of s.lsb + 16 * bit_of s.msb + 32 * bit_of s.z + 64 * bit_of s.ldz + 128 * bit_of s.rdz

-- No bit is set.
abbrev pub clear : Status
clear = record { dcm = false; cy = false; ovf = false; lsb = false; msb = false; z = false; ldz = false; rdz = false }
