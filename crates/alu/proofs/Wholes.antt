-- Sums and differences of whole numbers, and their lowest bytes.
use Rattle.std.proofs.Common.{◌≡◌, ℕ, zero, suc, ◌+◌, ◌-◌, ◌*◌, ◌/◌, ◌%◌, ◌^◌, ◌<◌, ◌≤◌, Bool, true, false, cond, get_or, not, ◌+ℤ◌, ◌-ℤ◌, leb, ltb, List, [], ◌∷◌, length, refl, ap, ◌∙◌, sym, arith}
use Rattle.std.proofs.lemmas.Nat.{mod-pow-add, mod-mul-add, mod_below, pow_pos, pow-add}
use Rattle.std.proofs.lemmas.Bool.Decides.{nat_tests}
use Rattle.byte_rows.specs.Short.{low_bytes}
use Rattle.byte_rows.proofs.Lows.{eight_more, length_low, low_cut, rest_below}
use Rattle.counting.specs.declared.Link.TheVariants.{Add, Subtract, Negate, Complement}
use Rattle.counting.specs.Binary.{binary}
use Rattle.counting.specs.Chain.{first, others, row_of, carry_of}
use Rattle.counting.specs.System.{bit}
use Rattle.counting.specs.System.{Lawful}
use Rattle.counting.specs.declared.Link.{Link}
use Rattle.alu.specs.Seen.{sized, negative}
use Rattle.alu.specs.Sums.{system_of, overflow_of, signs_of}
use Rattle.alu.proofs.Signs.{row_sized, carry_sized, signs_tell}
use Rattle.alu.specs.Signed.{signed, fits}
use Rattle.alu.specs.Logic.{joined_row}
use Rattle.alu.specs.declared.logic.Logic.TheVariants.{Replace}
use Rattle.alu.specs.declared.operations.Flags.{Flags}
use Rattle.alu.specs.Operations.{shown, overflow_in}
use Rattle.std.proofs.Math.Nat.{mod-eq_of_lt, le-mul_of_pos_right}

power_more : (n : ℕ) → 2 ^ (8 * suc n) ≡ 2 ^ (8 * n) * 256
power_more n = ap (λ p. 2 ^ p) (eight_more n) ∙ pow-add 2 (8 * n) 8

multiple_more : (n k : ℕ) → 2 ^ (8 * suc n) * k ≡ 2 ^ (8 * n) * k * 256
multiple_more n k = ap (λ p. p * k) (power_more n) ∙ (grind arith)

-- A number cut twice.
cut_twice : (n j w : ℕ) → w % 2 ^ (j + 8 * n) % 2 ^ (8 * n) ≡ w % 2 ^ (8 * n)
cut_twice n j w = ap (λ x. x % 2 ^ (8 * n)) (mod-pow-add w j (8 * n)) ∙ mod-mul-add _ (2 ^ (8 * n)) (w % 2 ^ (8 * n)) (mod_below w (2 ^ (8 * n)) (pow_pos (8 * n)))

cut_word : (n w : ℕ) → n ≤ 8 → w % 2 ^ 64 % 2 ^ (8 * n) ≡ w % 2 ^ (8 * n)
cut_word n w h =
    let e : 64 ≡ 64 - 8 * n + 8 * n = omega arith in
    ap (λ p. w % 2 ^ p % 2 ^ (8 * n)) e ∙ cut_twice n (64 - 8 * n) w

-- The lowest bytes of a word are those of the number that was cut to it.
pub low_word : (n w : ℕ) → n ≤ 8 → low_bytes n (w % 2 ^ 64) ≡ low_bytes n w
low_word n w h = sym (low_cut n (w % 2 ^ 64)) ∙ ap (low_bytes n) (cut_word n w h) ∙ low_cut n w

pub sum_row : (n a b : ℕ) (c : Bool) → row_of binary Add (low_bytes n a) (low_bytes n b) c ≡ low_bytes n (a + b + bit c)
unfolding low_bytes
sum_row zero a b c = refl
sum_row (suc n) a b c =
    let head : (a % 256 + b % 256 + bit c) % 256 ≡ (a + b + bit c) % 256 = omega arith in
    let over : a / 256 + b / 256 + bit (leb 256 (a % 256 + b % 256 + bit c)) ≡ (a + b + bit c) / 256 = grind (arith, nat_tests) in
    ap (λ h. h ∷ row_of binary Add (low_bytes n (a / 256)) (low_bytes n (b / 256)) (leb 256 (a % 256 + b % 256 + bit c))) head
    ∙ ap (λ l. (a + b + bit c) % 256 ∷ l) (sum_row n (a / 256) (b / 256) (leb 256 (a % 256 + b % 256 + bit c)) ∙ ap (low_bytes n) over)

-- A sum passes the bytes where it reaches the number above them.
pub sum_carry : (n a b : ℕ) (c : Bool) → a < 2 ^ (8 * n) → b < 2 ^ (8 * n) → carry_of binary Add (low_bytes n a) (low_bytes n b) c ≡ leb (2 ^ (8 * n)) (a + b + bit c)
unfolding low_bytes
sum_carry zero a b true h k = grind (arith, nat_tests)
sum_carry zero a b false h k = grind (arith, nat_tests)
sum_carry (suc n) a b c h k =
    let p : 2 ^ (8 * suc n) ≡ 2 ^ (8 * n) * 256 = power_more n in
    sum_carry n (a / 256) (b / 256) (leb 256 (a % 256 + b % 256 + bit c)) (rest_below n a h) (rest_below n b k)
    ∙ grind (arith, nat_tests)

-- The low byte of a difference, and what is left of it, where p is a multiple of what the higher bytes are worth.
under_head : (a b p q : ℕ) (c : Bool) → q ≡ p * 256 → b + bit c ≤ a + q → (a % 256 + 256 - (b % 256 + bit c)) % 256 ≡ (a + q - (b + bit c)) % 256
under_head a b p q true e h = omega arith
under_head a b p q false e h = omega arith

under_rest : (a b p q : ℕ) (c : Bool) → q ≡ p * 256 → b + bit c ≤ a + q → a / 256 + p - (b / 256 + bit (ltb (a % 256) (b % 256 + bit c))) ≡ (a + q - (b + bit c)) / 256
under_rest a b p q true e h = grind (arith, nat_tests)
under_rest a b p q false e h = grind (arith, nat_tests)

under_fits : (a b p q : ℕ) (c : Bool) → q ≡ p * 256 → b + bit c ≤ a + q → b / 256 + bit (ltb (a % 256) (b % 256 + bit c)) ≤ a / 256 + p
under_fits a b p q true e h = grind (arith, nat_tests)
under_fits a b p q false e h = grind (arith, nat_tests)

-- A difference, over any multiple of the number above the bytes.
pub difference_row : (n a b k : ℕ) (c : Bool) → b + bit c ≤ a + 2 ^ (8 * n) * k → row_of binary Subtract (low_bytes n a) (low_bytes n b) c ≡ low_bytes n (a + 2 ^ (8 * n) * k - (b + bit c))
unfolding low_bytes
difference_row zero a b k c h = refl
difference_row (suc n) a b k c h =
    let q = multiple_more n k in
    let head : (a % 256 + 256 - (b % 256 + bit c)) % 256 ≡ (a + 2 ^ (8 * suc n) * k - (b + bit c)) % 256 = under_head a b (2 ^ (8 * n) * k) _ c q h in
    let rest : a / 256 + 2 ^ (8 * n) * k - (b / 256 + bit (ltb (a % 256) (b % 256 + bit c))) ≡ (a + 2 ^ (8 * suc n) * k - (b + bit c)) / 256 = under_rest a b (2 ^ (8 * n) * k) _ c q h in
    ap (λ h. h ∷ row_of binary Subtract (low_bytes n (a / 256)) (low_bytes n (b / 256)) (ltb (a % 256) (b % 256 + bit c))) head
    ∙ ap (λ l. (a + 2 ^ (8 * suc n) * k - (b + bit c)) % 256 ∷ l) (difference_row n (a / 256) (b / 256) k (ltb (a % 256) (b % 256 + bit c)) (under_fits a b (2 ^ (8 * n) * k) _ c q h) ∙ ap (low_bytes n) rest)

pub difference_carry : (n a b : ℕ) (c : Bool) → a < 2 ^ (8 * n) → b < 2 ^ (8 * n) → carry_of binary Subtract (low_bytes n a) (low_bytes n b) c ≡ ltb a (b + bit c)
unfolding low_bytes
difference_carry zero a b true h k = grind (arith, nat_tests)
difference_carry zero a b false h k = grind (arith, nat_tests)
difference_carry (suc n) a b c h k =
    difference_carry n (a / 256) (b / 256) (ltb (a % 256) (b % 256 + bit c)) (rest_below n a h) (rest_below n b k)
    ∙ grind (arith, nat_tests)

-- A row cut or gone on with zero bytes.
pub sized_low : (n m w : ℕ) → w < 2 ^ (8 * m) → sized n (low_bytes m w) ≡ low_bytes n w
unfolding low_bytes
sized_low zero m w h = refl
sized_low (suc n) zero w h = grind (arith, sized_low n zero)
sized_low (suc n) (suc m) w h = ap (λ l. w % 256 ∷ l) (sized_low n m (w / 256) (rest_below m w h))

past_once : (b : Bool) (x p : ℕ) → leb p x ≡ b → x < 2 * p → x % p ≡ cond b (x - p) x
past_once true x p e h =
    let k : 1 * p + (x - p) ≡ x = grind (arith, nat_tests) in
    ap (λ y. y % p) (sym k) ∙ mod-mul-add 1 p (x - p) (omega arith)
past_once false x p e h = mod-eq_of_lt (grind (arith, nat_tests))

-- A sum that is cut is below the data where it was carried.
sum_below : (a b p : ℕ) → a < p → b < p → ltb ((a + b) % p) a ≡ leb p (a + b)
sum_below a b p h k = ap (λ r. ltb r a) (past_once (leb p (a + b)) (a + b) p refl (omega arith)) ∙ grind (arith, nat_tests)

-- What a sum of words of n bytes says of the chain.
module _ (n a b m : ℕ) (few : n ≤ 8) (ha : a < 2 ^ (8 * n)) (same : n ≡ m) (hb : b < 2 ^ (8 * m)) where
  as_long : low_bytes m b ≡ low_bytes n b
  as_long = ap (λ k. low_bytes k b) (sym same)

  below : b < 2 ^ (8 * n)
  below = rw same hb

  pub added : (k s : ℕ) → k ≡ n → s ≡ (a + b) % 2 ^ 64 → low_bytes k s ≡ row_of binary Add (low_bytes n a) (low_bytes m b) false
  added k s e f = ap (λ i. low_bytes i s) e ∙ ap (low_bytes n) f ∙ low_word n (a + b) few ∙ ap (low_bytes n) (omega arith) ∙ sym (sum_row n a b false) ∙ ap (λ l. row_of binary Add (low_bytes n a) l false) (sym as_long)

  pub carried : (k s r : ℕ) → k ≡ n → s ≡ (a + b) % 2 ^ 64 → r ≡ s % 2 ^ (8 * k) → ltb r a ≡ carry_of binary Add (low_bytes n a) (low_bytes m b) false
  carried k s r e f g =
      let cut : r ≡ (a + b) % 2 ^ (8 * n) = g ∙ ap (λ i. s % 2 ^ (8 * i)) e ∙ ap (λ x. x % 2 ^ (8 * n)) f ∙ cut_word n (a + b) few in
      ap (λ x. ltb x a) cut ∙ sum_below a b (2 ^ (8 * n)) ha below ∙ ap (leb (2 ^ (8 * n))) (omega arith) ∙ sym (sum_carry n a b false ha below) ∙ ap (λ l. carry_of binary Add (low_bytes n a) l false) (sym as_long)

  word_is : 2 ^ (8 * n) * 2 ^ (64 - 8 * n) ≡ 2 ^ 64
  word_is =
      let e : 8 * n + (64 - 8 * n) ≡ 64 = omega arith in
      sym (pow-add 2 (8 * n) (64 - 8 * n)) ∙ ap (λ p. 2 ^ p) e

  fits_word : b ≤ 2 ^ 64
  fits_word = omega (arith, word_is, le-mul_of_pos_right (2 ^ (8 * n)) (pow_pos (64 - 8 * n)), below)

  pub subtracted : (k s : ℕ) → k ≡ n → s ≡ (a + 2 ^ 64 - b) % 2 ^ 64 → low_bytes k s ≡ row_of binary Subtract (low_bytes n a) (low_bytes m b) false
  subtracted k s e f =
      let w : a + 2 ^ 64 - b ≡ a + 2 ^ (8 * n) * 2 ^ (64 - 8 * n) - (b + 0) = omega (arith, word_is) in
      ap (λ i. low_bytes i s) e ∙ ap (low_bytes n) f ∙ low_word n (a + 2 ^ 64 - b) few ∙ ap (low_bytes n) w
      ∙ sym (difference_row n a b (2 ^ (64 - 8 * n)) false (omega (arith, word_is, fits_word))) ∙ ap (λ l. row_of binary Subtract (low_bytes n a) l false) (sym as_long)

  pub borrowed : ltb a b ≡ carry_of binary Subtract (low_bytes n a) (low_bytes m b) false
  borrowed = ap (ltb a) (omega arith) ∙ sym (difference_carry n a b false ha below) ∙ ap (λ l. carry_of binary Subtract (low_bytes n a) l false) (sym as_long)

-- The top bit of the last byte is the sign.
abbrev pub sign : List ℕ → Bool
sign bytes = leb 128 (get_or bytes (length bytes - 1) 0)

sign_of_last : (bytes : List ℕ) → leb 128 (get_or bytes (length bytes - 1) 0) ≡ negative (length bytes) bytes
sign_of_last [] = refl
sign_of_last (b ∷ bytes) = grind (arith, nat_tests)

pub low_lawful : (n w : ℕ) → Lawful binary (low_bytes n w)
unfolding low_bytes
low_lawful zero w = tt
low_lawful (suc n) w = (grind (arith, nat_tests), low_lawful n (w / 256))

pub signs_of_rows : (o : Link) (n a m b : ℕ) (rs : List ℕ) → n ≡ m → length rs ≡ n → rs ≡ row_of binary o (low_bytes n a) (low_bytes m b) false → signs_of o (sign (low_bytes n a)) (sign (low_bytes m b)) (sign rs) ≡ overflow_of o (low_bytes n a) (low_bytes m b)
signs_of_rows o n a m b rs e l f =
    let x = sign_of_last (low_bytes n a) in
    let y = sign_of_last (low_bytes m b) ∙ ap (λ k. negative k (low_bytes m b)) (length_low m b ∙ sym e ∙ sym (length_low n a)) in
    let r = sign_of_last rs ∙ ap (λ k. negative k rs) (l ∙ sym (length_low n a)) in
    (λ i. signs_of o (x i) (y i) (r i)) ∙ signs_tell (low_bytes n a) (low_bytes m b) (low_lawful n a) (low_lawful m b) o rs f

sized_twice : (n : ℕ) (ys : List ℕ) → sized n (sized n ys) ≡ sized n ys
sized_twice zero ys = refl
sized_twice (suc n) ys = ap (λ l. first ys ∷ l) (sized_twice n (others ys))

overflow_sized : (l : Link) (xs ys : List ℕ) → overflow_of l xs (sized (length xs) ys) ≡ overflow_of l xs ys
overflow_sized Add xs ys = ap (λ zs. not (fits (length xs) (signed xs +ℤ signed zs))) (sized_twice (length xs) ys)
overflow_sized Subtract xs ys = ap (λ zs. not (fits (length xs) (signed xs -ℤ signed zs))) (sized_twice (length xs) ys)
overflow_sized Negate xs ys = refl
overflow_sized Complement xs ys = refl

-- What is told of a chain over the operand as it is, from one over the operand cut to the data's length.
pub told_sized : (d : Bool) (l : Link) (f : Flags) (on : Bool → Bool) (xs ys : List ℕ) → shown f (on (carry_of (system_of d) l xs (sized (length xs) ys) false)) (overflow_in d l xs (sized (length xs) ys)) (row_of (system_of d) l xs (sized (length xs) ys) false) ≡ shown f (on (carry_of (system_of d) l xs ys false)) (overflow_in d l xs ys) (row_of (system_of d) l xs ys false)
told_sized d l f on xs ys =
    let r = row_sized (system_of d) l xs ys false in
    let c = carry_sized (system_of d) l xs ys false in
    let o = ap (cond d false) (overflow_sized l xs ys) in
    sym (λ i. shown f (on (c i)) (sym o i) (r i))

pub joined_sized : (xs ys : List ℕ) → joined_row Replace xs ys ≡ sized (length xs) ys
joined_sized [] ys = refl
joined_sized (x ∷ xs) ys = ap (λ l. first ys ∷ l) (joined_sized xs (others ys))
