-- The processor's state, as the rules speak of it.
use Rattle.std.specs.Prelude.{ℕ, ◌/◌, ◌%◌, List, slice_index, slice_set}
use Rattle.byte_rows.specs.Rows.{pair, zeros}
use Rattle.registers.specs.declared.status.Status.{Status}
use Rattle.registers.specs.Bits.{clear}

pub record State : Type 0 where
  pub registers : List ℕ
  pub arp : ℕ
  pub drp : ℕ
  pub status : Status
  pub e : ℕ

-- The program counter is the pair of registers 4 and 5.
abbrev pub pc_of : State → ℕ
pc_of s = pair (slice_index s.registers 4) (slice_index s.registers 5)

-- At GO all is zero but the program counter and, in registers 6 and 7, the return pointer.
unfoldable pub began : ℕ → ℕ → State
began pc return = record {
  registers = slice_set (slice_set (slice_set (slice_set (zeros 64) 4 (pc % 256)) 5 (pc / 256)) 6 (return % 256)) 7 (return / 256);
  arp = 0;
  drp = 0;
  status = clear;
  e = 0;
}
