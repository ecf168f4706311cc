-- The signs of two numbers and of their sum tell whether the signed sum fits.
use Rattle.std.proofs.Common.{◌≡◌, ℕ, suc, ◌+◌, ◌*◌, ◌%◌, ◌^◌, ◌<◌, false, not, leb, ◌⊎◌, pos, ◌+ℤ◌, ◌-ℤ◌, pow-suc, arith}
use Rattle.std.proofs.lemmas.Int.{ints}
use Rattle.std.proofs.lemmas.Bool.Decides.{nat_tests}
use Rattle.alu.specs.Signed.{worth, within}
use Rattle.alu.specs.Sums.{turned}

-- numbers below p, with a carry of m
module _ (p a b r m : ℕ) (halves : (p ≡ 1) ⊎ (p % 2 ≡ 0)) (carry : (m ≡ 0) ⊎ (m ≡ p)) (ha : a < p) (hb : b < p) (hr : r < p) where
  pub sum_tells : r + m ≡ a + b → turned (leb p (2 * a)) (leb p (2 * b)) (leb p (2 * r)) ≡ not (within p (worth p a +ℤ worth p b))
  sum_tells e = grind (arith, ints, nat_tests)

  pub difference_tells : r + b ≡ a + m → turned (leb p (2 * a)) (not (leb p (2 * b))) (leb p (2 * r)) ≡ not (within p (worth p a -ℤ worth p b))
  difference_tells e = grind (arith, ints, nat_tests)

module _ (p a r m : ℕ) (halves : (p ≡ 1) ⊎ (p % 2 ≡ 0)) (carry : (m ≡ 0) ⊎ (m ≡ p)) (ha : a < p) (hr : r < p) where
  pub negation_tells : r + a ≡ m → turned false (not (leb p (2 * a))) (leb p (2 * r)) ≡ not (within p (pos 0 -ℤ worth p a))
  negation_tells e = grind (arith, ints, nat_tests)

-- A power of 256 above 1 is even. For who builds on this crate.
pub even_power : (n : ℕ) → 256 ^ suc n ≡ 256 ^ n * 128 + 256 ^ n * 128
even_power n = omega (arith, pow-suc 256 n)
