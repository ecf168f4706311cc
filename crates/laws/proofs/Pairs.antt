-- A pair of registers that was written, and one beside it.
use Rattle.std.proofs.Common.{◌≡◌, ℕ, ◌+◌, ◌/◌, ◌%◌, length, set, ◌∙◌, arith}
use Rattle.std.proofs.lemmas.List.{length-set, get_or-set_same, get_or-set_other}
use Rattle.registers.specs.State.{State}
use Rattle.registers.specs.Rows.{register_at, pair_at, with_pair}

pub pair_length : (s : State) (k v : ℕ) → length (with_pair s k v).registers ≡ length s.registers
pair_length s k v = length-set (set s.registers (k % 64) (v % 256)) ((k + 1) % 64) (v / 256) ∙ length-set s.registers (k % 64) (v % 256)

pub pair_same : (s : State) (k v : ℕ) → length s.registers ≡ 64 → pair_at (with_pair s k v).registers k ≡ v
pair_same s k v h =
    let rs = s.registers in
    let one = set rs (k % 64) (v % 256) in
    let size : length one ≡ 64 = length-set rs (k % 64) (v % 256) ∙ h in
    let high : register_at (with_pair s k v).registers (k + 1) ≡ v / 256 = get_or-set_same one ((k + 1) % 64) (v / 256) 0 (omega arith) in
    let low : register_at (with_pair s k v).registers k ≡ v % 256 = get_or-set_other one ((k + 1) % 64) (k % 64) (v / 256) 0 (λ e. absurd (omega arith)) ∙ get_or-set_same rs (k % 64) (v % 256) 0 (omega arith) in
    omega arith
