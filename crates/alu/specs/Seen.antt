-- What is seen of a result.
use Rattle.std.specs.Prelude.{ℕ, zero, suc, ◌-◌, ◌%◌, Bool, ◌&&◌, List, [], ◌∷◌, length, slice_index, ◌==◌, nat_le, nat_lt}
use Rattle.std.specs.List.{list_all}
use Rattle.registers.specs.declared.status.Status.{Status}
use Rattle.counting.specs.Chain.{first, others}

-- The last byte of a row, the highest, and 0 of an empty one.
abbrev pub last_of : List ℕ → ℕ
last_of bytes = slice_index bytes (length bytes - 1)

-- A row cut to n bytes, or gone on with zero bytes.
abbrev pub sized : ℕ → List ℕ → List ℕ
sized zero ys = []
sized (suc n) ys = first ys ∷ sized n (others ys)

-- Whether a number of n bytes is negative in two's complement: their top bit.
abbrev pub negative : ℕ → List ℕ → Bool
negative n bytes = nat_lt 0 n && nat_le 128 (slice_index bytes (n - 1))

-- Every byte is zero.
abbrev pub all_zero : List ℕ → Bool
all_zero bytes = list_all (λ b. b == 0) bytes

-- LSB and RDZ see the first byte: its bit 0, and whether its low digit is zero. MSB and LDZ see the last: its bit 7, and
-- whether its high digit is zero. Z sees all. CY and OVF come from the operation, and DCM stays.
abbrev pub seen : Status → Bool → Bool → List ℕ → Status
seen s cy ovf bs = record {
  dcm = s.dcm;
  cy = cy;
  ovf = ovf;
  lsb = (first bs % 2 == 1);
  msb = nat_le 128 (last_of bs);
  z = all_zero bs;
  ldz = nat_lt (last_of bs) 16;
  rdz = (first bs % 16 == 0);
}
