-- Shifts in whole numbers.
use Rattle.std.proofs.Common.{◌≡◌, ℕ, ◌+◌, ◌*◌, ◌/◌, ◌%◌, ◌^◌, ◌<◌, ◌≤◌, List, [], ◌∷◌, length, sym, le_refl, one-mul, pow-suc, mul-add, mul_comm, mul_left_comm, arith}
use native.Mathlib.Nat.{pow-zero, div-add-mod}
use Rattle.std.proofs.lemmas.Nat.{div_below, mul-le}
use Rattle.counting.specs.Binary.{binary}
use Rattle.counting.specs.System.{number}
use Rattle.counting.proofs.Numbers.{step}
use Rattle.alu.specs.Shifts.{left_row, left_out, right_row, right_out}

-- k times the number of a row of one byte more
times : (k x n : ℕ) → k * (x + 256 * n) ≡ k * x + 256 * (k * n)
times k x n = omega (arith, mul-add k x (256 * n), mul_left_comm k 256 n)

pub left_whole : (k : ℕ) (xs : List ℕ) (c : ℕ) → number binary (left_row k xs c) + 256 ^ length xs * left_out k xs c ≡ k * number binary xs + c
left_whole k [] c = simp (pow-zero, one-mul) (omega (arith, mul_comm k 0))
left_whole k (x ∷ xs) c =
    let d = (x * k + c) / 256 in
    rw (pow-suc, times) (step 256 (256 ^ length xs) _ (k * number binary xs) _ (k * x) c d _ (omega (arith, mul_comm k x)) (left_whole k xs d))

pub right_whole : (k : ℕ) (xs : List ℕ) (c : ℕ) → k * number binary (right_row k xs c) + right_out k xs c ≡ number binary xs + 256 ^ length xs * c
right_whole k [] c = simp (pow-zero, one-mul) (omega (arith, mul_comm k 0))
right_whole k (x ∷ xs) c =
    let d = right_out k xs c in
    let here : x + 256 * d ≡ k * ((d * 256 + x) / k) + (d * 256 + x) % k = omega (arith, div-add-mod (d * 256 + x) k) in
    rw (pow-suc, times) (sym (step 256 (256 ^ length xs) _ (k * number binary (right_row k xs c)) x _ _ d c here (sym (right_whole k xs c))))

-- What a byte with a carry below the radix gives and loses. For who builds on this crate.
pub left_lost : (x k c : ℕ) → x < 256 → c < k → (x * k + c) / 256 < k
left_lost x k c h l =
    let le : x ≤ 255 = omega arith in
    div_below (x * k + c) 256 k (omega arith) (omega (arith, mul-le x k 255 k le (le_refl k), mul_comm k 256))

pub right_kept : (x k c : ℕ) → x < 256 → c < k → (c * 256 + x) / k < 256
right_kept x k c h l = div_below (c * 256 + x) k 256 (omega arith) (omega arith)
