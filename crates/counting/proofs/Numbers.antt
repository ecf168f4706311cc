-- Chains in whole numbers, for any counting that keeps its laws.
use Rattle.std.proofs.Common.{◌≡◌, ℕ, suc, ◌+◌, ◌-◌, ◌*◌, ◌/◌, ◌%◌, ◌^◌, ◌<◌, ◌≤◌, Bool, true, false, List, [], ◌∷◌, length, sym, refl, ap, ◌∙◌, mul_assoc, mul_comm, mul-le-mul_left, one-mul, pow-suc, mul-zero, mul-one, mul-suc, mul-add, length-drop, zero-add, arith}
use Rattle.std.proofs.lemmas.List.{nil_from_length}
use native.Mathlib.Nat.{pow-zero}
use Rattle.std.proofs.lemmas.Nat.{div-mul-add, mod-mul-add}
use Rattle.std.proofs.lemmas.Bool.Decides.{nat_tests}
use Rattle.counting.specs.declared.Link.{Link}
use Rattle.counting.specs.declared.Link.TheVariants.{Add, Subtract, Negate, Complement}
use Rattle.counting.specs.System.{System, Laws, bit, number, Lawful}
use Rattle.counting.specs.Chain.{linked, first, others, row_of, carry_of, Numbers, Whole, one, Counts}

-- What ties the number out to those in, at the power p of the base.
abbrev pub Balance : Link → ℕ → ℕ → ℕ → Bool → ℕ → Bool → Type 0
Balance Add p a b c out d = out + p * bit d ≡ a + b + bit c
Balance Subtract p a b c out d = out + b + bit c ≡ a + p * bit d
Balance Negate p a b c out d = out + a + bit c ≡ p * bit d
Balance Complement p a b c out d = (out + a + 1 ≡ p) × (d ≡ c)

-- one byte more
pub step : (b p n m v w c d out : ℕ) → v + b * d ≡ w + c → n + p * out ≡ m + d → v + b * n + p * b * out ≡ w + b * m + c
step b p n m v w c d out one more = omega (arith, simp mul-add at (ap (λ z. b * z) more), mul_assoc b p out, ap (λ z. z * out) (mul_comm b p))

more : (l : Link) (b p x y v a k n : ℕ) (c d e : Bool) → Balance l b x y c v d → Balance l p a k d n e → Balance l (p * b) (x + b * a) (y + b * k) c (v + b * n) e
more Add b p x y v a k n c d e one rest = omega (arith, step b p n (a + k) v (x + y) (bit c) (bit d) (bit e) one rest, mul-add b a k)
more Subtract b p x y v a k n c d e one rest = omega (arith, step b p a (n + k) x (v + y) (bit c) (bit d) (bit e) (sym one) (sym rest), mul-add b n k)
more Negate b p x y v a k n c d e one rest = omega (arith, step b p 0 (n + a) 0 (v + x) (bit c) (bit d) (bit e) (omega (arith, one)) (omega (arith, rest)), mul-add b n a)
more Complement b p x y v a k n c d e one rest = (omega (arith, step b p 0 (n + a) 0 (v + x) 1 1 1 (omega (arith, one.0)) (omega (arith, rest.0)), mul-add b n a), rest.1 ∙ one.1)

-- what a number and a carry out say of remainder and quotient
pub parts : (n p c all : ℕ) → n < p → n + p * c ≡ all → (n ≡ all % p) × (c ≡ all / p)
parts n p c all h e =
    let turn : all ≡ c * p + n = omega (arith, e, mul_comm p c) in
    rw turn (sym (mod-mul-add c p n h), sym (div-mul-add c p n h))

less : (p a b n : ℕ) (c d : Bool) → n < p → Balance Subtract p a b c n d → Numbers Subtract p a b c n d
less p a b n c true h e = ((parts n p 0 _ h (omega (arith, e, mul-one p, mul-zero p))).0, grind (arith, nat_tests, mul-one p))
less p a b n c false h e = ((parts n p 1 _ h (omega (arith, e, mul-one p, mul-zero p))).0, grind (arith, nat_tests, mul-zero p))

numbers_of : (l : Link) (p a b n : ℕ) (c d : Bool) → n < p → Balance l p a b c n d → Numbers l p a b c n d
numbers_of Add p a b n c d h e = parts n p (bit d) _ h e
numbers_of Subtract p a b n c d h e = less p a b n c d h e
numbers_of Negate p a b n c d h e = rw zero-add at (less p 0 a n c d h (omega (arith, e)))
numbers_of Complement p a b n c d h e = (omega (arith, e.0), e.1)

counts_of : (l : Link) (p a b n : ℕ) (d : Bool) → n < p → a < p → b ≡ 1 → Balance l p a b false n d → Counts l p a n d
counts_of Add p a b n true h k e f = ((parts n p 1 (a + 1) h (omega (arith, e, f))).0, grind (arith, nat_tests, mul-one p))
counts_of Add p a b n false h k e f = ((parts n p 0 (a + 1) h (omega (arith, e, f))).0, grind (arith, nat_tests, mul-zero p))
counts_of Subtract p a b n true h k e f = ((parts n p 0 (a + p - 1) h (omega (arith, e, f, mul-one p, mul-zero p))).0, grind (arith, nat_tests, mul-one p))
counts_of Subtract p a b n false h k e f = ((parts n p 1 (a + p - 1) h (omega (arith, e, f, mul-one p, mul-zero p))).0, grind (arith, nat_tests, mul-zero p))
counts_of Negate p a b n d h k e f = tt
counts_of Complement p a b n d h k e f = tt

module _ (s : System) (w : Laws s) where
  zero_lawful : s.lawful 0 ≡ true
  zero_lawful = ap s.lawful (sym w.zero_byte) ∙ w.byte_lawful 0 (omega (arith, w.two_values))

  zero_value : s.value 0 ≡ 0
  zero_value = ap s.value (sym w.zero_byte) ∙ w.byte_value 0 (omega (arith, w.two_values))

  pub first_lawful : (ys : List ℕ) → Lawful s ys → s.lawful (first ys) ≡ true
  first_lawful [] h = zero_lawful
  first_lawful (y ∷ ys) h = h.0

  pub others_lawful : (ys : List ℕ) → Lawful s ys → Lawful s (others ys)
  others_lawful [] h = tt
  others_lawful (y ∷ ys) h = h.1

  number_first : (ys : List ℕ) → number s ys ≡ s.value (first ys) + s.base * number s (others ys)
  number_first [] = omega (arith, zero_value, mul-zero s.base)
  number_first (y ∷ ys) = refl

  one_number : number s (one s) ≡ 1
  one_number = omega (arith, w.byte_value 1 w.two_values, mul-zero s.base)

  -- lawful bytes stand for a number below the base's power
  pub number_below : (xs : List ℕ) → Lawful s xs → number s xs < s.base ^ length xs
  number_below [] h = simp pow-zero (omega arith)
  number_below (x ∷ xs) (here, rest) = rw pow-suc (omega (arith, w.below x here, mul-le-mul_left s.base (number_below xs rest), mul_comm s.base (s.base ^ length xs), mul-suc s.base (number s xs)))

  -- a link's byte is lawful, and balanced
  link_lawful : (l : Link) (a b : ℕ) (c : Bool) → s.lawful a ≡ true → s.lawful b ≡ true → s.lawful (linked s l a b c).0 ≡ true
  link_lawful Add a b c p q = w.plus_lawful a b c p q
  link_lawful Subtract a b c p q = w.minus_lawful a b c p q
  link_lawful Negate a b c p q = w.minus_lawful 0 a c zero_lawful p
  link_lawful Complement a b c p q = w.rest_lawful a p

  link_balanced : (l : Link) (a b : ℕ) (c : Bool) → s.lawful a ≡ true → s.lawful b ≡ true → Balance l s.base (s.value a) (s.value b) c (s.value (linked s l a b c).0) (linked s l a b c).1
  link_balanced Add a b c p q = w.plus_value a b c p q
  link_balanced Subtract a b c p q = w.minus_value a b c p q
  link_balanced Negate a b c p q = omega (arith, w.minus_value 0 a c zero_lawful p, zero_value)
  link_balanced Complement a b c p q = (w.rest_value a p, refl)

  pub row_lawful : (l : Link) (xs ys : List ℕ) (c : Bool) → Lawful s xs → Lawful s ys → Lawful s (row_of s l xs ys c)
  row_lawful l [] ys c h k = tt
  row_lawful l (x ∷ xs) ys c (here, rest) k = (link_lawful l x (first ys) c here (first_lawful ys k), row_lawful l xs (others ys) (linked s l x (first ys) c).1 rest (others_lawful ys k))

  pub row_length : (l : Link) (xs ys : List ℕ) (c : Bool) → length (row_of s l xs ys c) ≡ length xs
  row_length l [] ys c = refl
  row_length l (x ∷ xs) ys c = ap suc (row_length l xs (others ys) (linked s l x (first ys) c).1)

  none_balanced : (l : Link) (b : ℕ) (c : Bool) → b ≡ 0 → Balance l 1 0 b c 0 c
  none_balanced Add b c e = omega (arith, e, one-mul (bit c))
  none_balanced Subtract b c e = omega (arith, e, one-mul (bit c))
  none_balanced Negate b c e = omega (arith, e, one-mul (bit c))
  none_balanced Complement b c e = (refl, refl)

  pub balance : (l : Link) (xs ys : List ℕ) (c : Bool) → Lawful s xs → Lawful s ys → length ys ≤ length xs → Balance l (s.base ^ length xs) (number s xs) (number s ys) c (number s (row_of s l xs ys c)) (carry_of s l xs ys c)
  balance l [] ys c h k short = simp pow-zero (none_balanced l (number s ys) c (ap (number s) (nil_from_length ys (omega arith))))
  balance l (x ∷ xs) ys c (here, rest) k short =
      let d = (linked s l x (first ys) c).1 in
      rw (pow-suc, number_first ys)
      (more l s.base (s.base ^ length xs) _ _ _ _ _ _ c d _ (link_balanced l x (first ys) c here (first_lawful ys k)) (balance l xs (others ys) d rest (others_lawful ys k) (omega (arith, length-drop 1 ys))))

  -- Negating looks at no operand, so that it may be any. For who builds on this crate.
  pub negation : (xs ys : List ℕ) (c : Bool) → Lawful s xs → number s (row_of s Negate xs ys c) + number s xs + bit c ≡ s.base ^ length xs * bit (carry_of s Negate xs ys c)
  negation [] ys c h = simp pow-zero (none_balanced Negate 0 c refl)
  negation (x ∷ xs) ys c (here, rest) =
      let d = (linked s Negate x (first ys) c).1 in
      rw pow-suc
      (more Negate s.base (s.base ^ length xs) (s.value x) 0 _ (number s xs) 0 _ c d _ (link_balanced Negate x 0 c here zero_lawful) (negation xs (others ys) d rest))

  module _ (xs ys : List ℕ) (c : Bool) (h : Lawful s xs) (k : Lawful s ys) (short : length ys ≤ length xs) where
    pub row_below : (l : Link) → number s (row_of s l xs ys c) < s.base ^ length xs
    row_below l = rw (row_length l xs ys c) at (number_below (row_of s l xs ys c) (row_lawful l xs ys c h k))

    pub whole : (l : Link) (out : List ℕ) (d : Bool) → out ≡ row_of s l xs ys c → d ≡ carry_of s l xs ys c → Whole s l xs ys c out d
    whole l out d p q = rw (p, q) (row_lawful l xs ys c h k, numbers_of l _ _ _ _ c _ (row_below l) (balance l xs ys c h k short))

  -- an operand that stands for 1 counts up or down
  pub counts : (l : Link) (xs ys out : List ℕ) (c d : Bool) → Lawful s xs → 0 < length xs → ys ≡ one s → c ≡ false → out ≡ row_of s l xs ys c → d ≡ carry_of s l xs ys c → Counts l (s.base ^ length xs) (number s xs) (number s out) d
  counts l xs ys out c d h long e f p q =
      let k : Lawful s (one s) = (w.byte_lawful 1 w.two_values, tt) in
      let short : length (one s) ≤ length xs = omega arith in
      rw (p, q, e, f) (counts_of l _ _ _ _ _ (row_below xs (one s) false h k short l) (number_below xs h) one_number (balance l xs (one s) false h k short))
