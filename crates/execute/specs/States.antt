-- Changes of the processor's state.
use Rattle.std.specs.Prelude.{ℕ, ◌+◌, ◌-◌, ◌*◌, ◌/◌, ◌%◌, Bool, List, [], ◌∷◌, ◌==◌, slice_index}
use Rattle.registers.specs.declared.status.Status.{Status}
use Rattle.registers.specs.Bits.{bit_of}
use Rattle.registers.specs.State.{State}
use Rattle.registers.specs.Rows.{pair_at, register_at, with_pair}
use Rattle.decode.specs.declared.instruction.Source.{Source}
use Rattle.decode.specs.declared.instruction.Source.TheVariants.{Number, R0}

-- The state with other pointers, and all else as it was.
abbrev pub with_pointers : State → ℕ → ℕ → State
with_pointers s arp drp = record s { arp = arp; drp = drp }

-- The state with another status.
abbrev pub with_status : State → Status → State
with_status s status = record s { status = status }

-- The state with another E, which has four bits.
abbrev pub with_e : State → ℕ → State
with_e s e = record s { e = e % 16 }

-- What ARP or DRP is set to: six bits of the code, or of R0.
abbrev pub pointed : Source → State → ℕ
pointed (Number n) s = n % 64
pointed R0 s = register_at s.registers 0 % 64

-- BIN and BCD set DCM, and no other status bit.
abbrev pub in_mode : Status → Bool → Status
in_mode s decimal = record s { dcm = decimal }

-- The return pointer is the pair R6-R7.
abbrev pub return_pointer : State → ℕ
return_pointer s = pair_at s.registers 6

-- The return pointer less n. Addresses wrap.
abbrev pub lowered : State → ℕ → ℕ
lowered s n = (return_pointer s + (65536 - n)) % 65536

-- The state with n added to the return pointer.
abbrev pub raised : State → ℕ → State
raised s n = with_pair s 6 ((return_pointer s + n) % 65536)

-- SAD's three bytes: ARP, CY, OVF; DRP, DCM, Z; LSB, MSB, LDZ, RDZ. E is not among them.
abbrev pub saved : State → List ℕ
saved s =
    (s.arp + 64 * bit_of s.status.cy + 128 * bit_of s.status.ovf)
    ∷ (s.drp + 64 * bit_of s.status.dcm + 128 * bit_of s.status.z)
    ∷ (bit_of s.status.lsb + 2 * bit_of s.status.msb + 4 * bit_of s.status.ldz + 8 * bit_of s.status.rdz)
    ∷ []

-- Whether the bit that counts `place` is set in a byte.
abbrev pub bit_at : ℕ → ℕ → Bool
bit_at b place = b / place % 2 == 1

-- PAD takes the status from SAD's bytes; the top four bits of the third are ignored.
abbrev pub restored_status : ℕ → ℕ → ℕ → Status
restored_status a b c = record {
  dcm = bit_at b 64;
  cy = bit_at a 64;
  ovf = bit_at a 128;
  lsb = bit_at c 1;
  msb = bit_at c 2;
  z = bit_at b 128;
  ldz = bit_at c 4;
  rdz = bit_at c 8;
}

-- PAD takes back the pointers, six bits each, and the status. Registers and E stay.
abbrev pub restored : State → List ℕ → State
restored s bs = with_status (with_pointers s (slice_index bs 0 % 64) (slice_index bs 1 % 64)) (restored_status (slice_index bs 0) (slice_index bs 1) (slice_index bs 2))
