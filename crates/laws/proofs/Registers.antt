-- Registers outside a row that is written.
use Rattle.std.proofs.Common.{◌≡◌, ◌≢◌, ℕ, zero, suc, ◌+◌, ◌-◌, ◌/◌, ◌%◌, false, List, [], ◌∷◌, length, set, refl, ap, ◌∙◌, arith}
use Rattle.std.proofs.lemmas.Bool.{ltb-false, le-ltb}
use Rattle.std.proofs.lemmas.List.{get_or-set_other}
use Rattle.registers.specs.State.{State}
use Rattle.registers.specs.Rows.{register_at, row_at, registers_with, with_pair}
use Rattle.laws.specs.Parts.{in_row}

pub row_length : (rs : List ℕ) (k n : ℕ) → length (row_at rs k n) ≡ n
row_length rs k zero = refl
row_length rs k (suc n) = ap suc (row_length rs (k + 1) n)

pub row_left : (rs : List ℕ) (k : ℕ) (bs : List ℕ) (x : ℕ) → in_row k (length bs) x ≡ false → register_at (registers_with rs k bs) x ≡ register_at rs x
row_left rs k [] x h = refl
row_left rs k (b ∷ bs) x h =
    let far = ltb-false ((x % 64 + (64 - k % 64)) % 64) (suc (length bs)) h in
    let rest : in_row (k + 1) (length bs) x ≡ false = le-ltb ((x % 64 + (64 - (k + 1) % 64)) % 64) (length bs) (omega arith) in
    let other : x % 64 ≢ k % 64 = λ e. absurd (omega arith) in
    row_left (set rs (k % 64) b) (k + 1) bs x rest ∙ get_or-set_other rs (k % 64) (x % 64) b 0 other

pub pair_left : (s : State) (k v x : ℕ) → in_row k 2 x ≡ false → register_at (with_pair s k v).registers x ≡ register_at s.registers x
pair_left s k v x h = row_left s.registers k (v % 256 ∷ v / 256 ∷ []) x h
