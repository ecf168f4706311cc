-- What marking an address does to the stains of a sheet.
use Rattle.std.proofs.Common.{◌≡◌, ℕ, ◌-◌, ◌/◌, ◌%◌, ◌^◌, ◌<◌, Bool, true, false, cond, ◌≢◌, List, length, get_or, refl, ap, ◌∙◌, arith, length-set, get_or-set_other, get_or-set_same}
use Rattle.std.specs.Prelude.{◌==◌, bit_or, bit_and}
use Rattle.std.specs.Int.{bit_at, w8}
use Rattle.std.proofs.lemmas.Bool.Decides.{nat_tests}
use Rattle.std.proofs.lemmas.Nat.{pow_below}
use Rattle.std.proofs.lemmas.Nat.Bits.{bit_at_or, bit_at_and, bit_at_not, bit_at-lt, bit_at-pow_same, bit_at-pow_other}
use Rattle.reading.specs.Sheets.{stained}
use Rattle.stains.specs.Marks.{with_bit, mark}

pub length_mark : (v : Bool) (a : ℕ) (s : List ℕ) → length (mark v a s) ≡ length s
length_mark v a s = simp length-set

others : (j k : ℕ) → j < 8 → k < 8 → bit_at (255 - 2 ^ k) j ≡ 1 - bit_at (2 ^ k) j
others j k hj hk = bit_at_not w8 (2 ^ k) j (pow_below k 8 hk) hj

same_bit : (v : Bool) (b k : ℕ) → k < 8 → (bit_at (with_bit v b k) k == 1) ≡ v
same_bit true b k hk =
    let e : bit_at (bit_or b (2 ^ k)) k ≡ 1 = omega (arith, bit_at_or b (2 ^ k) k, bit_at-pow_same k, bit_at-lt b k) in
    ap (λ n. n == 1) e
same_bit false b k hk =
    let e : bit_at (bit_and b (255 - 2 ^ k)) k ≡ 0 = omega (arith, bit_at_and b (255 - 2 ^ k) k, others k k hk hk, bit_at-pow_same k) in
    ap (λ n. n == 1) e

other_bit : (v : Bool) (b j k : ℕ) → j < 8 → k < 8 → j ≢ k → bit_at (with_bit v b k) j ≡ bit_at b j
other_bit true b j k hj hk ne = omega (arith, bit_at_or b (2 ^ k) j, bit_at-pow_other k j ne)
other_bit false b j k hj hk ne = omega (arith, bit_at_and b (255 - 2 ^ k) j, others j k hj hk, bit_at-pow_other k j ne, bit_at-lt b j)

-- the byte of an address after another was marked
byte_of : (v : Bool) (a x : ℕ) (s : List ℕ) → length s ≡ 8192 → a < 65536 → a / 8 ≡ x / 8 → get_or (mark v a s) (x / 8) 0 ≡ with_bit v (get_or s (x / 8) 0) (a % 8)
byte_of v a x s len ha q =
    let lt : a / 8 < length s = omega arith in
    rw (← q) (get_or-set_same s (a / 8) (with_bit v (get_or s (a / 8) 0) (a % 8)) 0 lt)

-- marking sets or clears the stain of the one address
pub stained_mark : (v : Bool) (a x : ℕ) (s : List ℕ) → length s ≡ 8192 → a < 65536 → x < 65536
    → stained (mark v a s) x ≡ cond (x == a) v (stained s x)
stained_mark v a x s len ha hx = go (x == a) refl (x / 8 == a / 8) refl
  where
    go : (b : Bool) → (x == a) ≡ b → (c : Bool) → (x / 8 == a / 8) ≡ c → stained (mark v a s) x ≡ cond b v (stained s x)
    go true e c f =
        let q : x ≡ a = grind (arith, nat_tests) in
        let k : a % 8 < 8 = omega arith in
        rw q (ap (λ n. bit_at n (a % 8) == 1) (byte_of v a a s len ha refl) ∙ same_bit v (get_or s (a / 8) 0) (a % 8) k)
    go false e true f =
        let q : a / 8 ≡ x / 8 = grind (arith, nat_tests) in
        let n : x ≢ a = grind (arith, nat_tests) in
        let ne : (x % 8) ≢ (a % 8) = omega arith in
        ap (λ n. bit_at n (x % 8) == 1) (byte_of v a x s len ha q) ∙ ap (λ n. n == 1) (other_bit v (get_or s (x / 8) 0) (x % 8) (a % 8) (omega arith) (omega arith) ne)
    go false e false f =
        let ne : (x / 8) ≢ (a / 8) = grind (arith, nat_tests) in
        ap (λ n. bit_at n (x % 8) == 1) (get_or-set_other s (a / 8) (x / 8) (with_bit v (get_or s (a / 8) 0) (a % 8)) 0 ne)
