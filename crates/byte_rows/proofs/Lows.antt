-- The lowest bytes of a number.
use Rattle.std.proofs.Common.{◌≡◌, ℕ, zero, suc, ◌+◌, ◌*◌, ◌/◌, ◌%◌, ◌^◌, ◌<◌, ◌≤◌, ◌&&◌, ◌==◌, List, [], ◌∷◌, length, take, min, get_or, refl, ap, ◌∙◌, sym, arith}
use Rattle.std.specs.Int.{w64, to_le_bytes, from_le_bytes}
use Rattle.std.proofs.lemmas.Nat.{mod-pow-add, field_of, mod-mul-add, le_bytes_8, pow-add, shr-shr}
use Rattle.std.proofs.Math.Nat.{zero-div}
use Rattle.std.proofs.lemmas.Bool.Decides.{nat_tests}
use Rattle.std.proofs.lemmas.List.{take_min}
use Rattle.std.specs.List.{list_all}
use Rattle.byte_rows.specs.Short.{low_bytes}

pub length_low : (n w : ℕ) → length (low_bytes n w) ≡ n
unfolding low_bytes
length_low zero w = refl
length_low (suc n) w = ap suc (length_low n (w / 256))

pub take_low : (n m w : ℕ) → n ≤ m → take n (low_bytes m w) ≡ low_bytes n w
unfolding low_bytes
take_low zero m w h = refl
take_low (suc n) zero w h = absurd (omega arith)
take_low (suc n) (suc m) w h = ap (λ l. w % 256 ∷ l) (take_low n m (w / 256) (omega arith))

pub eight_low : (w : ℕ) → low_bytes 8 w ≡ to_le_bytes w64 w
unfolding low_bytes
eight_low w = grind arith

-- What a number above the bytes is worth is not seen.
low_first : (m w : ℕ) → w % 2 ^ (8 * suc m) % 256 ≡ w % 256
low_first m w = ap (λ p. w % 2 ^ p % 256) (omega arith) ∙ ap (λ x. x % 256) (mod-pow-add w (8 * m) 8) ∙ mod-mul-add (w / 256 % 2 ^ (8 * m)) 256 (w % 256) (omega arith)

low_rest : (m w : ℕ) → w % 2 ^ (8 * suc m) / 256 ≡ w / 256 % 2 ^ (8 * m)
low_rest m w = ap (λ p. w % 2 ^ p / 256) (omega arith) ∙ field_of w (8 * m) 8

pub low_cut : (n w : ℕ) → low_bytes n (w % 2 ^ (8 * n)) ≡ low_bytes n w
unfolding low_bytes
low_cut zero w = refl
low_cut (suc n) w = ap (λ b. b ∷ low_bytes n (w % 2 ^ (8 * suc n) / 256)) (low_first n w) ∙ ap (λ l. w % 256 ∷ l) (ap (low_bytes n) (low_rest n w) ∙ low_cut n (w / 256))

pub take_eight : (n w : ℕ) (bytes : List ℕ) → n ≤ 8 → bytes ≡ to_le_bytes w64 w → take (length (low_bytes n w)) bytes ≡ low_bytes n w
take_eight n w bytes h e = ap (λ k. take k bytes) (length_low n w) ∙ ap (take n) (e ∙ sym (eight_low w)) ∙ take_low n 8 w h

-- The bytes that make a number are its lowest.
pub take_from : (bytes : List ℕ) (n w : ℕ) → length bytes ≡ 8 → ((i : ℕ) → get_or bytes i 0 < 256) → w ≡ from_le_bytes w64 bytes → low_bytes (min n 8) w ≡ take n bytes
take_from bytes n w l small e = sym (take_low (min n 8) 8 w (grind arith)) ∙ ap (take (min n 8)) (eight_low w ∙ le_bytes_8 bytes w l small e) ∙ ap (λ k. take (min n k) bytes) (sym l) ∙ take_min n bytes

pub eight_more : (n : ℕ) → 8 * suc n ≡ 8 * n + 8
eight_more n = omega arith

pub rest_below : (n w : ℕ) → w < 2 ^ (8 * suc n) → w / 256 < 2 ^ (8 * n)
rest_below n w h = omega (arith, ap (λ p. 2 ^ p) (eight_more n) ∙ pow-add 2 (8 * n) 8)

-- Each byte of a number that has no more, and the zero bytes after them.
pub get_low : (n w i : ℕ) → w < 2 ^ (8 * n) → get_or (low_bytes n w) i 0 ≡ w / 2 ^ (8 * i) % 256
unfolding low_bytes
get_low zero zero i h = sym (ap (λ x. x % 256) (zero-div (2 ^ (8 * i))))
get_low zero (suc w) i h = absurd (omega arith)
get_low (suc n) w zero h = grind arith
get_low (suc n) w (suc i) h = get_low n (w / 256) i (rest_below n w h) ∙ ap (λ x. x % 256) (shr-shr w 8 (8 * i) ∙ ap (λ p. w / 2 ^ p) (omega arith))

pub zero_low : (n w : ℕ) → w < 2 ^ (8 * n) → list_all (λ b. b == 0) (low_bytes n w) ≡ (w == 0)
unfolding low_bytes
zero_low zero zero h = refl
zero_low zero (suc w) h = absurd (omega arith)
zero_low (suc n) w h = ap (λ r. (w % 256 == 0) && r) (zero_low n (w / 256) (rest_below n w h)) ∙ grind (arith, nat_tests)

pub one_low : (b : ℕ) → b < 256 → low_bytes (min 1 8) b ≡ b ∷ []
unfolding low_bytes
one_low b h = grind arith
