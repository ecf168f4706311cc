-- Whether a chain overflows, by the signs of its numbers.
use Rattle.std.proofs.Common.{◌≡◌, ℕ, zero, suc, ◌-◌, ◌*◌, ◌%◌, ◌^◌, ◌<◌, ◌≤◌, Bool, true, false, ◌&&◌, leb, ltb, ◌⊎◌, List, [], ◌∷◌, length, get_or, sym, refl, ap, ◌∙◌, inl, inr, pow-suc, sub-one, mul-zero, mul-one, arith}
use Rattle.std.proofs.lemmas.Bool.{lt-ltb}
use Rattle.std.proofs.lemmas.Bool.Decides.{nat_tests}
use Rattle.std.proofs.lemmas.Grind.{get_or_after_one}
use Rattle.counting.specs.declared.Link.{Link}
use Rattle.counting.specs.declared.Link.TheVariants.{Add, Subtract, Negate, Complement}
use Rattle.counting.specs.Binary.{binary}
use Rattle.counting.specs.Chain.{linked, first, others, row_of, carry_of}
use Rattle.counting.specs.System.{System, bit, number, Lawful}
use Rattle.counting.proofs.Binaries.{binary_laws}
use Rattle.counting.proofs.Numbers.{balance, row_lawful, row_length, row_below, first_lawful, others_lawful, number_below}
use Rattle.alu.specs.Seen.{last_of, sized, negative}
use Rattle.alu.specs.Sums.{overflow_of, signs_of}
use Rattle.alu.proofs.Overflow.{sum_tells, difference_tells, negation_tells}

pub sized_length : (n : ℕ) (ys : List ℕ) → length (sized n ys) ≡ n
sized_length zero ys = refl
sized_length (suc n) ys = ap suc (sized_length n (others ys))

pub sized_at : (n : ℕ) (ys : List ℕ) (i : ℕ) → i < n → get_or (sized n ys) i 0 ≡ get_or ys i 0
sized_at zero ys i h = absurd (omega arith)
sized_at (suc n) ys zero h = refl
sized_at (suc n) ys (suc i) h = sized_at n (others ys) i (omega arith) ∙ get_or_after_one ys i 0 ∙ ap (λ k. get_or ys k 0) (omega arith)

pub sized_lawful : (n : ℕ) (ys : List ℕ) → Lawful binary ys → Lawful binary (sized n ys)
sized_lawful zero ys h = tt
sized_lawful (suc n) ys h = (first_lawful binary binary_laws ys h, sized_lawful n (others ys) (others_lawful binary binary_laws ys h))

-- for who builds on this crate
pub sized_same : (xs : List ℕ) → sized (length xs) xs ≡ xs
sized_same [] = refl
sized_same (x ∷ xs) = ap (λ t. x ∷ t) (sized_same xs)

-- a chain looks at its operand as at one of the data's length
pub row_sized : (s : System) (l : Link) (xs ys : List ℕ) (c : Bool) → row_of s l xs ys c ≡ row_of s l xs (sized (length xs) ys) c
row_sized s l [] ys c = refl
row_sized s l (x ∷ xs) ys c = ap (λ t. (linked s l x (first ys) c).0 ∷ t) (row_sized s l xs (others ys) (linked s l x (first ys) c).1)

pub carry_sized : (s : System) (l : Link) (xs ys : List ℕ) (c : Bool) → carry_of s l xs ys c ≡ carry_of s l xs (sized (length xs) ys) c
carry_sized s l [] ys c = refl
carry_sized s l (x ∷ xs) ys c = carry_sized s l xs (others ys) (linked s l x (first ys) c).1

-- the top bit tells in which half of its numbers a row's number stands
top : (x : ℕ) (xs : List ℕ) → Lawful binary (x ∷ xs) → leb 128 (get_or (x ∷ xs) (length xs) 0) ≡ leb (256 ^ length xs * 256) (2 * number binary (x ∷ xs))
top x [] (here, rest) = grind (arith, nat_tests)
top x (y ∷ ys) (here, rest) = top y ys rest ∙ rw pow-suc (grind (arith, nat_tests))

negative_half : (xs : List ℕ) → Lawful binary xs → negative (length xs) xs ≡ leb (256 ^ length xs) (2 * number binary xs)
negative_half [] h = refl
negative_half (x ∷ xs) h = rw (lt-ltb 0 (length (x ∷ xs)) (omega arith), sub-one, pow-suc) (top x xs h)

-- for who builds on this crate
pub top_half : (xs : List ℕ) → Lawful binary xs → leb 128 (last_of xs) ≡ leb (256 ^ length xs) (2 * number binary xs)
top_half [] h = refl
top_half (x ∷ xs) h = rw (sub-one, pow-suc) (top x xs h)

negative_sized : (n : ℕ) (ys : List ℕ) → negative n ys ≡ negative n (sized n ys)
negative_sized zero ys = refl
negative_sized (suc n) ys = ap (λ b. ltb 0 (suc n) && leb 128 b) (sym (sized_at (suc n) ys (suc n - 1) (omega arith)))

halves : (n : ℕ) → (256 ^ n ≡ 1) ⊎ (256 ^ n % 2 ≡ 0)
halves zero = inl refl
halves (suc n) = inr (rw pow-suc (omega arith))

carry_is : (p : ℕ) (c : Bool) → (p * bit c ≡ 0) ⊎ (p * bit c ≡ p)
carry_is p true = inr (mul-one p)
carry_is p false = inl (mul-zero p)

module _ (xs ys : List ℕ) (hx : Lawful binary xs) (hy : Lawful binary ys) where
  abbrev p : ℕ
  p = 256 ^ length xs

  abbrev zs : List ℕ
  zs = sized (length xs) ys

  hz : Lawful binary zs
  hz = sized_lawful (length xs) ys hy

  short : length zs ≤ length xs
  short = omega (arith, sized_length (length xs) ys)

  abbrev out : Link → List ℕ
  out o = row_of binary o xs zs false

  abbrev carry : Link → ℕ
  carry o = p * bit (carry_of binary o xs zs false)

  below_x : number binary xs < p
  below_x = number_below binary binary_laws xs hx

  below_z : number binary zs < p
  below_z = rw sized_length at (number_below binary binary_laws zs hz)

  below_out : (o : Link) → number binary (out o) < p
  below_out = row_below binary binary_laws xs zs false hx hz short

  tells : (o : Link) → signs_of o (leb p (2 * number binary xs)) (leb p (2 * number binary zs)) (leb p (2 * number binary (out o))) ≡ overflow_of o xs ys
  tells Add = rw sized_length (sum_tells p _ _ _ (carry Add) (halves (length xs)) (carry_is p _) below_x below_z (below_out Add) (omega (arith, balance binary binary_laws Add xs zs false hx hz short)))
  tells Subtract = rw sized_length (difference_tells p _ _ _ (carry Subtract) (halves (length xs)) (carry_is p _) below_x below_z (below_out Subtract) (omega (arith, balance binary binary_laws Subtract xs zs false hx hz short)))
  tells Negate = negation_tells p _ _ (carry Negate) (halves (length xs)) (carry_is p _) below_x (below_out Negate) (omega (arith, balance binary binary_laws Negate xs zs false hx hz short))
  tells Complement = refl

  -- what the three signs say is whether the signed result does not fit
  pub signs_tell : (o : Link) (rs : List ℕ) → rs ≡ row_of binary o xs ys false → signs_of o (negative (length xs) xs) (negative (length xs) ys) (negative (length xs) rs) ≡ overflow_of o xs ys
  signs_tell o rs e =
      let of_x = negative_half xs hx in
      let of_z = negative_sized (length xs) ys ∙ (rw sized_length at (negative_half zs hz)) in
      let of_out = ap (negative (length xs)) (e ∙ row_sized binary o xs ys false) ∙ (rw (row_length binary binary_laws) at (negative_half (out o) (row_lawful binary binary_laws o xs zs false hx hz))) in
      (λ i. signs_of o (of_x i) (of_z i) (of_out i)) ∙ tells o
