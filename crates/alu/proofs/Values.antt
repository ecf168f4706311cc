-- Decimal chains, from binary chains of values.
use Rattle.std.proofs.Common.{◌≡◌, ℕ, ◌+◌, ◌-◌, ◌*◌, ◌%◌, ◌<◌, Bool, true, false, leb, ltb, List, [], ◌∷◌, length, map, refl, ap, ◌∙◌, sym, arith, rules, pred}
use Rattle.std.proofs.lemmas.Bool.Decides.{nat_tests}
use Rattle.std.proofs.lemmas.Bool.{and_parts, and_from}
use Rattle.std.specs.List.{list_all}
use Rattle.byte_rows.specs.Short.{low_bytes, bytes_of}
use Rattle.byte_rows.specs.declared.row.Row.{Row}
use Rattle.alu.proofs.Lanes.{part_all, part_map, map_again, all_eight}
use Rattle.byte_rows.proofs.Lows.{length_low}
use Rattle.counting.specs.declared.Link.TheVariants.{Add, Subtract}
use Rattle.counting.specs.System.{bit, Laws}
use Rattle.counting.specs.Binary.{binary}
use Rattle.counting.specs.Decimal.{decimal, two_digits}
use Rattle.counting.specs.Chain.{row_of, carry_of}
use Rattle.alu.specs.Lanes.{raised, is_outcome, lowered, decimal_of}

decimal_laws : Laws decimal
decimal_laws = search rules

-- A byte of a chain.
sum_carries : (x y : ℕ) (c : Bool) → two_digits x ≡ true → two_digits y ≡ true → (decimal.plus x y c).1 ≡ leb 256 (decimal.value x + 156 + decimal.value y + bit c)
sum_carries x y c h k = by_carry (decimal.plus x y c).0 (decimal.plus x y c).1 (decimal_laws.below _ (decimal_laws.plus_lawful x y c h k)) (decimal_laws.plus_value x y c h k)
  where
    by_carry : (z : ℕ) (d : Bool) → decimal.value z < 100 → decimal.value z + 100 * bit d ≡ decimal.value x + decimal.value y + bit c → d ≡ leb 256 (decimal.value x + 156 + decimal.value y + bit c)
    by_carry z true l e = grind (arith, nat_tests)
    by_carry z false l e = grind (arith, nat_tests)

sum_byte : (x y : ℕ) (c : Bool) → two_digits x ≡ true → two_digits y ≡ true → (decimal.plus x y c).0 ≡ decimal_of ((decimal.value x + 156 + decimal.value y + bit c) % 256)
sum_byte x y c h k =
    let lawful = decimal_laws.plus_lawful x y c h k in
    sym (decimal_laws.value_byte _ lawful) ∙ ap decimal.byte (by_carry (decimal.value (decimal.plus x y c).0) (decimal.plus x y c).1 (decimal.value x + decimal.value y + bit c) (decimal.value x + 156 + decimal.value y + bit c) (decimal_laws.below _ lawful) (decimal_laws.plus_value x y c h k) (omega arith))
  where
    by_carry : (v : ℕ) (d : Bool) (s t : ℕ) → v < 100 → v + 100 * bit d ≡ s → t ≡ s + 156 → v ≡ lowered (t % 256)
    by_carry v true s t l e f = grind (arith, nat_tests)
    by_carry v false s t l e f = grind (arith, nat_tests)

difference_borrows : (x y : ℕ) (c : Bool) → two_digits x ≡ true → two_digits y ≡ true → (decimal.minus x y c).1 ≡ ltb (decimal.value x) (decimal.value y + bit c)
difference_borrows x y c h k = by_carry (decimal.minus x y c).0 (decimal.minus x y c).1 (decimal_laws.below _ (decimal_laws.minus_lawful x y c h k)) (decimal_laws.minus_value x y c h k) (decimal_laws.below x h)
  where
    by_carry : (z : ℕ) (d : Bool) → decimal.value z < 100 → decimal.value z + decimal.value y + bit c ≡ decimal.value x + 100 * bit d → decimal.value x < 100 → d ≡ ltb (decimal.value x) (decimal.value y + bit c)
    by_carry z true l e m = grind (arith, nat_tests)
    by_carry z false l e m = grind (arith, nat_tests)

difference_byte : (x y : ℕ) (c : Bool) → two_digits x ≡ true → two_digits y ≡ true → (decimal.minus x y c).0 ≡ decimal_of ((decimal.value x + 256 - (decimal.value y + bit c)) % 256)
difference_byte x y c h k =
    let lawful = decimal_laws.minus_lawful x y c h k in
    sym (decimal_laws.value_byte _ lawful) ∙ ap decimal.byte (by_carry (decimal.value (decimal.minus x y c).0) (decimal.minus x y c).1 (decimal.value x) (decimal.value y + bit c) (decimal_laws.below _ lawful) (omega (arith, decimal_laws.minus_value x y c h k)) (decimal_laws.below x h))
  where
    by_carry : (v : ℕ) (d : Bool) (s t : ℕ) → v < 100 → v + t ≡ s + 100 * bit d → s < 100 → v ≡ lowered ((s + 256 - t) % 256)
    by_carry v true s t l e f = grind (arith, nat_tests)
    by_carry v false s t l e f = grind (arith, nat_tests)

outcome : (v : ℕ) (d : Bool) (s t : ℕ) → v < 100 → v + t ≡ s + 100 * bit d → s < 100 → is_outcome ((s + 256 - t) % 256) ≡ true
outcome v true s t l e f = grind (arith, nat_tests)
outcome v false s t l e f = grind (arith, nat_tests)

sum_outcome : (s t : ℕ) → s < 200 → t ≡ s + 156 → is_outcome (t % 256) ≡ true
sum_outcome s t l e = grind (arith, nat_tests)

-- What the two rows of values are.
abbrev pub values_of : List ℕ → List ℕ
values_of xs = map decimal.value xs

abbrev pub raised_of : List ℕ → List ℕ
raised_of xs = map (λ b. raised (decimal.value b)) xs

pub sum_rows : (xs ys : List ℕ) (c : Bool) → length xs ≡ length ys → list_all two_digits xs ≡ true → list_all two_digits ys ≡ true → row_of decimal Add xs ys c ≡ map decimal_of (row_of binary Add (raised_of xs) (values_of ys) c)
sum_rows [] ys c l h k = refl
sum_rows (x ∷ xs) [] c l h k = absurd (omega arith)
sum_rows (x ∷ xs) (y ∷ ys) c l h k =
    let hs : (two_digits x ≡ true) × (list_all two_digits xs ≡ true) = and_parts _ _ h in
    let ks : (two_digits y ≡ true) × (list_all two_digits ys ≡ true) = and_parts _ _ k in
    let t : ℕ = decimal.value x + 156 + decimal.value y + bit c in
    ap (λ b. b ∷ row_of decimal Add xs ys (decimal.plus x y c).1) (sum_byte x y c hs.0 ks.0)
    ∙ ap (λ d. decimal_of (t % 256) ∷ row_of decimal Add xs ys d) (sum_carries x y c hs.0 ks.0)
    ∙ ap (λ r. decimal_of (t % 256) ∷ r) (sum_rows xs ys (leb 256 t) (ap pred l) hs.1 ks.1)

pub sum_carry_out : (xs ys : List ℕ) (c : Bool) → length xs ≡ length ys → list_all two_digits xs ≡ true → list_all two_digits ys ≡ true → carry_of decimal Add xs ys c ≡ carry_of binary Add (raised_of xs) (values_of ys) c
sum_carry_out [] ys c l h k = refl
sum_carry_out (x ∷ xs) [] c l h k = absurd (omega arith)
sum_carry_out (x ∷ xs) (y ∷ ys) c l h k =
    let hs : (two_digits x ≡ true) × (list_all two_digits xs ≡ true) = and_parts _ _ h in
    let ks : (two_digits y ≡ true) × (list_all two_digits ys ≡ true) = and_parts _ _ k in
    ap (carry_of decimal Add xs ys) (sum_carries x y c hs.0 ks.0) ∙ sum_carry_out xs ys (leb 256 (decimal.value x + 156 + decimal.value y + bit c)) (ap pred l) hs.1 ks.1

pub sum_outcomes : (xs ys : List ℕ) (c : Bool) → length xs ≡ length ys → list_all two_digits xs ≡ true → list_all two_digits ys ≡ true → list_all is_outcome (row_of binary Add (raised_of xs) (values_of ys) c) ≡ true
sum_outcomes [] ys c l h k = refl
sum_outcomes (x ∷ xs) [] c l h k = absurd (omega arith)
sum_outcomes (x ∷ xs) (y ∷ ys) c l h k =
    let hs : (two_digits x ≡ true) × (list_all two_digits xs ≡ true) = and_parts _ _ h in
    let ks : (two_digits y ≡ true) × (list_all two_digits ys ≡ true) = and_parts _ _ k in
    let s : ℕ = decimal.value x + decimal.value y + bit c in
    and_from _ _ (sum_outcome s (decimal.value x + 156 + decimal.value y + bit c) (small s c refl (decimal_laws.below x hs.0) (decimal_laws.below y ks.0)) (omega arith)) (sum_outcomes xs ys (leb 256 (decimal.value x + 156 + decimal.value y + bit c)) (ap pred l) hs.1 ks.1)
  where
    small : (s : ℕ) (c : Bool) → s ≡ decimal.value x + decimal.value y + bit c → decimal.value x < 100 → decimal.value y < 100 → s < 200
    small s true e a b = omega arith
    small s false e a b = omega arith

pub difference_rows : (xs ys : List ℕ) (c : Bool) → length xs ≡ length ys → list_all two_digits xs ≡ true → list_all two_digits ys ≡ true → row_of decimal Subtract xs ys c ≡ map decimal_of (row_of binary Subtract (values_of xs) (values_of ys) c)
difference_rows [] ys c l h k = refl
difference_rows (x ∷ xs) [] c l h k = absurd (omega arith)
difference_rows (x ∷ xs) (y ∷ ys) c l h k =
    let hs : (two_digits x ≡ true) × (list_all two_digits xs ≡ true) = and_parts _ _ h in
    let ks : (two_digits y ≡ true) × (list_all two_digits ys ≡ true) = and_parts _ _ k in
    let t : ℕ = (decimal.value x + 256 - (decimal.value y + bit c)) % 256 in
    ap (λ b. b ∷ row_of decimal Subtract xs ys (decimal.minus x y c).1) (difference_byte x y c hs.0 ks.0)
    ∙ ap (λ d. decimal_of t ∷ row_of decimal Subtract xs ys d) (difference_borrows x y c hs.0 ks.0)
    ∙ ap (λ r. decimal_of t ∷ r) (difference_rows xs ys (ltb (decimal.value x) (decimal.value y + bit c)) (ap pred l) hs.1 ks.1)

pub difference_borrow_out : (xs ys : List ℕ) (c : Bool) → length xs ≡ length ys → list_all two_digits xs ≡ true → list_all two_digits ys ≡ true → carry_of decimal Subtract xs ys c ≡ carry_of binary Subtract (values_of xs) (values_of ys) c
difference_borrow_out [] ys c l h k = refl
difference_borrow_out (x ∷ xs) [] c l h k = absurd (omega arith)
difference_borrow_out (x ∷ xs) (y ∷ ys) c l h k =
    let hs : (two_digits x ≡ true) × (list_all two_digits xs ≡ true) = and_parts _ _ h in
    let ks : (two_digits y ≡ true) × (list_all two_digits ys ≡ true) = and_parts _ _ k in
    ap (carry_of decimal Subtract xs ys) (difference_borrows x y c hs.0 ks.0) ∙ difference_borrow_out xs ys (ltb (decimal.value x) (decimal.value y + bit c)) (ap pred l) hs.1 ks.1

pub difference_outcomes : (xs ys : List ℕ) (c : Bool) → length xs ≡ length ys → list_all two_digits xs ≡ true → list_all two_digits ys ≡ true → list_all is_outcome (row_of binary Subtract (values_of xs) (values_of ys) c) ≡ true
difference_outcomes [] ys c l h k = refl
difference_outcomes (x ∷ xs) [] c l h k = absurd (omega arith)
difference_outcomes (x ∷ xs) (y ∷ ys) c l h k =
    let hs : (two_digits x ≡ true) × (list_all two_digits xs ≡ true) = and_parts _ _ h in
    let ks : (two_digits y ≡ true) × (list_all two_digits ys ≡ true) = and_parts _ _ k in
    let p = decimal_laws.minus_lawful x y c hs.0 ks.0 in
    and_from _ _ (outcome (decimal.value (decimal.minus x y c).0) (decimal.minus x y c).1 (decimal.value x) (decimal.value y + bit c) (decimal_laws.below _ p) (omega (arith, decimal_laws.minus_value x y c hs.0 ks.0)) (decimal_laws.below x hs.0)) (difference_outcomes xs ys (ltb (decimal.value x) (decimal.value y + bit c)) (ap pred l) hs.1 ks.1)

-- What a binary chain of values says of the decimal one.
module _ (a b : Row) (same : a.len ≡ b.len) (ha : list_all two_digits (low_bytes 8 a.word) ≡ true) (hb : list_all two_digits (low_bytes 8 b.word) ≡ true) where
  long : length (bytes_of a) ≡ length (bytes_of b)
  long = length_low a.len a.word ∙ same ∙ sym (length_low b.len b.word)

  data_digits : list_all two_digits (bytes_of a) ≡ true
  data_digits = part_all two_digits a.len a.word a.short ha

  operand_digits : list_all two_digits (bytes_of b) ≡ true
  operand_digits = part_all two_digits b.len b.word b.short hb

  pub values_row : (n u : ℕ) → n ≡ a.len → low_bytes 8 u ≡ map decimal.value (low_bytes 8 a.word) → low_bytes n u ≡ values_of (bytes_of a)
  values_row n u e is = ap (λ k. low_bytes k u) e ∙ part_map decimal.value a.len a.word u a.short is

  pub raised_row : (n v u : ℕ) → n ≡ a.len → low_bytes 8 v ≡ map decimal.value (low_bytes 8 a.word) → low_bytes 8 u ≡ map raised (low_bytes 8 v) → low_bytes n u ≡ raised_of (bytes_of a)
  raised_row n v u e is js = ap (λ k. low_bytes k u) e ∙ part_map (λ x. raised (decimal.value x)) a.len a.word u a.short (map_again a.word decimal.value raised v u is js)

  pub operand_row : (n u : ℕ) → n ≡ a.len → low_bytes 8 u ≡ map decimal.value (low_bytes 8 b.word) → low_bytes n u ≡ values_of (bytes_of b)
  operand_row n u e is = ap (λ k. low_bytes k u) (e ∙ same) ∙ part_map decimal.value b.len b.word u b.short is

  module _ (xs ys : List ℕ) (ex : xs ≡ raised_of (bytes_of a)) (ey : ys ≡ values_of (bytes_of b)) where
    added : row_of binary Add xs ys false ≡ row_of binary Add (raised_of (bytes_of a)) (values_of (bytes_of b)) false
    added = λ i. row_of binary Add (ex i) (ey i) false

    pub sum_is : (s : Row) → bytes_of s ≡ row_of binary Add xs ys false → list_all is_outcome (low_bytes 8 s.word) ≡ true
    sum_is s e = all_eight is_outcome s.len s.word refl s.cut (ap (list_all is_outcome) (e ∙ added) ∙ sum_outcomes (bytes_of a) (bytes_of b) false long data_digits operand_digits)

    pub sum_digits : (s : List ℕ) → s ≡ row_of binary Add xs ys false → map decimal_of s ≡ row_of decimal Add (bytes_of a) (bytes_of b) false
    sum_digits s e = ap (map decimal_of) (e ∙ added) ∙ sym (sum_rows (bytes_of a) (bytes_of b) false long data_digits operand_digits)

    pub sum_out : carry_of binary Add xs ys false ≡ carry_of decimal Add (bytes_of a) (bytes_of b) false
    sum_out = (λ i. carry_of binary Add (ex i) (ey i) false) ∙ sym (sum_carry_out (bytes_of a) (bytes_of b) false long data_digits operand_digits)

  module _ (xs ys : List ℕ) (ex : xs ≡ values_of (bytes_of a)) (ey : ys ≡ values_of (bytes_of b)) where
    lessened : row_of binary Subtract xs ys false ≡ row_of binary Subtract (values_of (bytes_of a)) (values_of (bytes_of b)) false
    lessened = λ i. row_of binary Subtract (ex i) (ey i) false

    pub difference_is : (s : Row) → bytes_of s ≡ row_of binary Subtract xs ys false → list_all is_outcome (low_bytes 8 s.word) ≡ true
    difference_is s e = all_eight is_outcome s.len s.word refl s.cut (ap (list_all is_outcome) (e ∙ lessened) ∙ difference_outcomes (bytes_of a) (bytes_of b) false long data_digits operand_digits)

    pub difference_digits : (s : List ℕ) → s ≡ row_of binary Subtract xs ys false → map decimal_of s ≡ row_of decimal Subtract (bytes_of a) (bytes_of b) false
    difference_digits s e = ap (map decimal_of) (e ∙ lessened) ∙ sym (difference_rows (bytes_of a) (bytes_of b) false long data_digits operand_digits)

    pub difference_out : carry_of binary Subtract xs ys false ≡ carry_of decimal Subtract (bytes_of a) (bytes_of b) false
    difference_out = (λ i. carry_of binary Subtract (ex i) (ey i) false) ∙ sym (difference_borrow_out (bytes_of a) (bytes_of b) false long data_digits operand_digits)
