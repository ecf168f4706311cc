-- Registers, pairs and rows of them. Register numbers wrap modulo 64.
use Rattle.std.specs.Prelude.{ℕ, zero, suc, ◌+◌, ◌-◌, ◌/◌, ◌%◌, cond, List, [], ◌∷◌, nat_lt, slice_index, slice_set}
use Rattle.byte_rows.specs.Rows.{pair}
use Rattle.registers.specs.declared.cpu.rows.Form.{Form}
use Rattle.registers.specs.declared.cpu.rows.Form.TheVariants.{Byte, Multi}
use Rattle.registers.specs.State.{State}

-- A byte form spans one register. A multi form spans 2 - DRP mod 2 below R40, and 8 - DRP mod 8 from R40 on.
abbrev pub span_of : Form → ℕ → ℕ
span_of Byte drp = 1
span_of Multi drp = cond (nat_lt drp 32) (2 - drp % 2) (8 - drp % 8)

-- Register k.
abbrev pub register_at : List ℕ → ℕ → ℕ
register_at rs k = slice_index rs (k % 64)

-- The pair of register k and the next one, low byte first.
abbrev pub pair_at : List ℕ → ℕ → ℕ
pair_at rs k = pair (register_at rs k) (register_at rs (k + 1))

-- n registers from k on, across any boundary.
abbrev pub row_at : List ℕ → ℕ → ℕ → List ℕ
row_at rs k zero = []
row_at rs k (suc n) = register_at rs k ∷ row_at rs (k + 1) n

-- The registers, with a row written to those from k on.
abbrev pub registers_with : List ℕ → ℕ → List ℕ → List ℕ
registers_with rs k [] = rs
registers_with rs k (b ∷ bs) = registers_with (slice_set rs (k % 64) b) (k + 1) bs

-- The state with a row, or a pair, written to the registers from k on.
abbrev pub with_row : State → ℕ → List ℕ → State
with_row s k bs = record { registers = registers_with s.registers k bs; arp = s.arp; drp = s.drp; status = s.status; e = s.e }

abbrev pub with_pair : State → ℕ → ℕ → State
with_pair s k v = with_row s k (v % 256 ∷ v / 256 ∷ [])
