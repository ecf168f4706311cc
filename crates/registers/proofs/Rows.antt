-- One more register at the end of a row.
use Rattle.std.proofs.Common.{◌≡◌, ℕ, zero, suc, ◌+◌, ◌%◌, ◌<◌, List, [], ◌∷◌, ◌++◌, length, set, get_or, take, drop, refl, ap, sym, ◌∙◌, ◌≤◌, arith}
use Rattle.std.proofs.Math.Seq.{drop-cons}
use Rattle.std.proofs.lemmas.List.{take_all}
use Rattle.byte_rows.specs.Rows.{over}
use Rattle.registers.specs.Rows.{register_at, row_at, registers_with}

pub row_more : (rs : List ℕ) (k n : ℕ) → row_at rs k (n + 1) ≡ row_at rs k n ++ register_at rs (k + n) ∷ []
row_more rs k zero = grind arith
row_more rs k (suc n) = grind (arith, row_more rs (k + 1) n)

pub with_more : (rs : List ℕ) (k : ℕ) (row : List ℕ) (i : ℕ) → i < length row → registers_with rs k (take (i + 1) row) ≡ set (registers_with rs k (take i row)) ((k + i) % 64) (get_or row i 0)
with_more rs k [] i h = absurd (omega arith)
with_more rs k (x ∷ row) zero h = grind arith
with_more rs k (x ∷ row) (suc i) h = grind (arith, with_more (set rs (k % 64) x) (k + 1) row i)

-- Registers that lie in line.
pub row_in_line : (rs : List ℕ) (k n : ℕ) → k + n ≤ 64 → length rs ≡ 64 → row_at rs k n ≡ take n (drop k rs)
row_in_line rs k zero h e = grind arith
row_in_line rs k (suc n) h e = grind (arith, drop-cons rs k 0 (omega arith), row_in_line rs (k + 1) n (omega arith) e)

row_part : (rs : List ℕ) (k n m : ℕ) → n ≤ m → take n (row_at rs k m) ≡ row_at rs k n
row_part rs k zero m h = grind arith
row_part rs k (suc n) zero h = absurd (omega arith)
row_part rs k (suc n) (suc m) h = ap (λ l. register_at rs k ∷ l) (row_part rs (k + 1) n m (omega arith))

pub row_first : (rs : List ℕ) (k n : ℕ) (bytes : List ℕ) → bytes ≡ row_at rs k 8 → n ≤ 8 → take n bytes ≡ row_at rs k n
row_first rs k n bytes e h = ap (take n) e ∙ row_part rs k n 8 h

pub with_in_line : (rs : List ℕ) (k : ℕ) (row : List ℕ) → k + length row ≤ 64 → registers_with rs k row ≡ over rs k row
unfolding over
with_in_line rs k [] h = refl
with_in_line rs k (b ∷ row) h = grind (arith, with_in_line (set rs k b) (suc k) row)

-- A row that fills its array.
pub row_fills : (row bytes : List ℕ) → take (length row) bytes ≡ row → length bytes ≤ length row → row ≡ bytes
row_fills row bytes e h = sym e ∙ take_all (length row) bytes h
