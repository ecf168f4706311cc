-- Words as rows of eight bytes, each worked on by itself.
use Rattle.std.proofs.Common.{◌≡◌, ℕ, zero, suc, ◌+◌, ◌-◌, ◌*◌, ◌/◌, ◌%◌, ◌^◌, ◌<◌, ◌≤◌, Bool, true, false, cond, leb, ltb, eqb, ◌&&◌, bit_and, List, [], ◌∷◌, map, take, map-id, mul-one, mul-zero, mul_comm, refl, ap, ◌∙◌, sym, arith}
use Rattle.std.proofs.lemmas.Nat.{and_mod, and_shr, and_mask, shr-shr}
use Rattle.std.proofs.lemmas.Bool.Decides.{nat_tests}
use Rattle.std.proofs.lemmas.Bool.{and_parts, and_from}
use Rattle.std.specs.List.{list_all}
use Rattle.byte_rows.specs.Short.{low_bytes, bytes_of}
use Rattle.byte_rows.specs.declared.row.Row.{Row}
use Rattle.counting.specs.Chain.{first_refused}
use Rattle.alu.specs.Seen.{sized}
use Rattle.alu.specs.Operations.{digits_of, index_from}
use Rattle.std.specs.Prelude.{Ok, None}
use Rattle.byte_rows.proofs.Lows.{take_low, zero_low, rest_below}
use Rattle.counting.specs.System.{bit, number}
use Rattle.counting.specs.Binary.{binary}
use Rattle.counting.specs.Decimal.{decimal, two_digits}
use Rattle.alu.specs.Lanes.{reached, rest, all_bytes, countable}
use Rattle.alu.proofs.Wholes.{low_word}

-- One byte, n times.
abbrev pub filled : ℕ → ℕ → ℕ
filled m zero = 0
filled m (suc n) = m + 256 * filled m n

-- A word moved down and masked in each byte.
masked : (j m : ℕ) (f : ℕ → ℕ) → m < 256 → ((w : ℕ) → bit_and (w / 2 ^ j % 256) m ≡ f (w % 256)) → (n w : ℕ) → low_bytes n (bit_and (w / 2 ^ j) (filled m n)) ≡ map f (low_bytes n w)
unfolding low_bytes
masked j m f h head zero w = refl
masked j m f h head (suc n) w =
    let low : filled m (suc n) % 256 ≡ m = omega arith in
    let high : filled m (suc n) / 256 ≡ filled m n = omega arith in
    let turn : w / 2 ^ j / 256 ≡ w / 256 / 2 ^ j = shr-shr w j 8 ∙ ap (λ p. w / 2 ^ p) (omega arith) ∙ sym (shr-shr w 8 j) in
    ap (λ b. b ∷ low_bytes n (bit_and (w / 2 ^ j) (filled m (suc n)) / 256)) (and_mod (w / 2 ^ j) (filled m (suc n)) 8 ∙ ap (bit_and (w / 2 ^ j % 256)) low ∙ head w)
    ∙ ap (λ x. f (w % 256) ∷ low_bytes n x) (and_shr (w / 2 ^ j) (filled m (suc n)) 8 ∙ ap (bit_and (w / 2 ^ j / 256)) high ∙ ap (λ x. bit_and x (filled m n)) turn)
    ∙ ap (λ l. f (w % 256) ∷ l) (masked j m f h head n (w / 256))

pub low_digits : (w : ℕ) → low_bytes 8 (bit_and w 0x0F0F0F0F0F0F0F0F) ≡ map (λ b. b % 16) (low_bytes 8 w)
low_digits w = ap (λ x. low_bytes 8 (bit_and x 0x0F0F0F0F0F0F0F0F)) (omega arith) ∙ masked 0 15 (λ b. b % 16) (omega arith) (λ v. and_mask (v / 2 ^ 0 % 256) 4 ∙ omega arith) 8 w

pub high_digits : (w : ℕ) → low_bytes 8 (bit_and (w / 16) 0x0F0F0F0F0F0F0F0F) ≡ map (λ b. b / 16) (low_bytes 8 w)
high_digits w = masked 4 15 (λ b. b / 16) (omega arith) (λ v. and_mask (v / 2 ^ 4 % 256) 4 ∙ omega arith) 8 w

pub top_bits : (w : ℕ) → low_bytes 8 (bit_and (w / 128) 0x0101010101010101) ≡ map (λ b. b / 128) (low_bytes 8 w)
top_bits w = masked 7 1 (λ b. b / 128) (omega arith) (λ v. and_mask (v / 2 ^ 7 % 256) 1 ∙ omega arith) 8 w

-- The number of a word's bytes is the word, and the bytes of a number of bytes are those.
pub number_low : (n w : ℕ) → w < 2 ^ (8 * n) → number binary (low_bytes n w) ≡ w
unfolding low_bytes
number_low zero w h = omega arith
number_low (suc n) w h = omega (arith, number_low n (w / 256) (rest_below n w h))

is_byte : ℕ → Bool
is_byte b = ltb b 256

pub low_number : (f : ℕ → ℕ) (p : ℕ → Bool) → ((b : ℕ) → b < 256 → p b ≡ true → f b < 256) → (n w : ℕ) → list_all p (low_bytes n w) ≡ true → low_bytes n (number binary (map f (low_bytes n w))) ≡ map f (low_bytes n w)
unfolding low_bytes
low_number f p h zero w e = refl
low_number f p h (suc n) w e =
    let here = and_parts _ _ e in
    let small : f (w % 256) < 256 = h (w % 256) (omega arith) here.0 in
    let rest = number binary (map f (low_bytes n (w / 256))) in
    ap (λ b. b ∷ low_bytes n ((f (w % 256) + 256 * rest) / 256)) (omega arith)
    ∙ ap (λ x. f (w % 256) ∷ low_bytes n x) (omega arith)
    ∙ ap (λ l. f (w % 256) ∷ l) (low_number f p h n (w / 256) here.1)

-- A number of bytes made of two others.
pub number_sum : (k : ℕ) (f g h : ℕ → ℕ) (p : ℕ → Bool) → ((b : ℕ) → b < 256 → p b ≡ true → f b + k * g b ≡ h b) → (n w : ℕ) → list_all p (low_bytes n w) ≡ true → number binary (map f (low_bytes n w)) + k * number binary (map g (low_bytes n w)) ≡ number binary (map h (low_bytes n w))
unfolding low_bytes
number_sum k f g h p e zero w a = omega arith
number_sum k f g h p e (suc n) w a =
    let here : (p (w % 256) ≡ true) × (list_all p (low_bytes n (w / 256)) ≡ true) = and_parts _ _ a in
    grind (arith, e (w % 256) (omega arith) here.0, number_sum k f g h p e n (w / 256) here.1)

-- A number of bytes, from what stands in a word.
by_number : (f : ℕ → ℕ) (p : ℕ → Bool) (z w : ℕ) → ((b : ℕ) → b < 256 → p b ≡ true → f b < 256) → list_all p (low_bytes 8 w) ≡ true → z ≡ number binary (map f (low_bytes 8 w)) → low_bytes 8 (z % 2 ^ 64) ≡ map f (low_bytes 8 w)
by_number f p z w small e is = low_word 8 z (omega arith) ∙ ap (low_bytes 8) is ∙ low_number f p small 8 w e

number_is : (w v : ℕ) (f : ℕ → ℕ) → v < 2 ^ 64 → low_bytes 8 v ≡ map f (low_bytes 8 w) → number binary (map f (low_bytes 8 w)) ≡ v
number_is w v f h e = ap (number binary) (sym e) ∙ number_low 8 v h

number_same : (w : ℕ) → w < 2 ^ 64 → number binary (map (λ b. b) (low_bytes 8 w)) ≡ w
number_same w h = ap (number binary) (map-id (low_bytes 8 w)) ∙ number_low 8 w h

number_ones : (w : ℕ) → number binary (map (λ b. 1) (low_bytes 8 w)) ≡ 0x0101010101010101
unfolding low_bytes
number_ones w = refl

-- A number added to each byte.
pub each_added : (k : ℕ) (p : ℕ → Bool) (w : ℕ) → ((b : ℕ) → b < 256 → p b ≡ true → b + k < 256) → w < 2 ^ 64 → list_all p (low_bytes 8 w) ≡ true → low_bytes 8 ((w + k * 0x0101010101010101) % 2 ^ 64) ≡ map (λ b. b + k) (low_bytes 8 w)
each_added k p w small h e =
    by_number (λ b. b + k) p (w + k * 0x0101010101010101) w small e
    (ap (λ x. x + k * 0x0101010101010101) (sym (number_same w h)) ∙ ap (λ x. number binary (map (λ b. b) (low_bytes 8 w)) + k * x) (sym (number_ones w))
    ∙ number_sum k (λ b. b) (λ b. 1) (λ b. b + k) p (λ b l q. omega (arith, mul-one k)) 8 w e)

-- So many times what stands in another word taken from each byte.
pub each_less : (k : ℕ) (g f : ℕ → ℕ) (p : ℕ → Bool) (w v : ℕ) → ((b : ℕ) → b < 256 → p b ≡ true → f b + k * g b ≡ b) → w < 2 ^ 64 → v < 2 ^ 64 → low_bytes 8 v ≡ map g (low_bytes 8 w) → list_all p (low_bytes 8 w) ≡ true → low_bytes 8 ((w + (2 ^ 64 - v * k % 2 ^ 64)) % 2 ^ 64) ≡ map f (low_bytes 8 w)
each_less k g f p w v balance h j is e =
    let n : ℕ = number binary (map f (low_bytes 8 w)) in
    let all : n + k * v ≡ w = ap (λ x. n + k * x) (sym (number_is w v g j is)) ∙ number_sum k f g (λ b. b) p balance 8 w e ∙ number_same w h in
    let turn : v * k ≡ k * v = mul_comm v k in
    let word : (w + (2 ^ 64 - v * k % 2 ^ 64)) % 2 ^ 64 ≡ n % 2 ^ 64 = ap (λ x. (w + (2 ^ 64 - x % 2 ^ 64)) % 2 ^ 64) turn ∙ less_word n (k * v) w all h in
    ap (low_bytes 8) word ∙ by_number f p n w (λ b l q. omega (arith, balance b l q)) e refl
  where
    less_word : (n m w : ℕ) → n + m ≡ w → w < 2 ^ 64 → (w + (2 ^ 64 - m % 2 ^ 64)) % 2 ^ 64 ≡ n % 2 ^ 64
    less_word n m w a h = omega arith

pub all_words : (w : ℕ) → list_all (λ b. true) (low_bytes 8 w) ≡ true
unfolding low_bytes
all_words w = refl

pub reached_by : (k : ℕ) → k ≤ 128 → (w : ℕ) → list_all (λ b. ltb b (2 * k)) (low_bytes 8 w) ≡ true → map (λ b. b / 128) (map (λ b. b + (128 - k)) (low_bytes 8 w)) ≡ map (reached k) (low_bytes 8 w)
reached_by k h w e = by_bytes (low_bytes 8 w) e
  where
    by_bytes : (xs : List ℕ) → list_all (λ b. ltb b (2 * k)) xs ≡ true → map (λ b. b / 128) (map (λ b. b + (128 - k)) xs) ≡ map (reached k) xs
    by_bytes [] e = refl
    by_bytes (x ∷ xs) e =
        let here : (ltb x (2 * k) ≡ true) × (list_all (λ b. ltb b (2 * k)) xs ≡ true) = and_parts _ _ e in
        let one : (x + (128 - k)) / 128 ≡ reached k x = grind (arith, nat_tests, here.0) in
        ap (λ b. b ∷ map (λ b. b / 128) (map (λ b. b + (128 - k)) xs)) one ∙ ap (λ l. reached k x ∷ l) (by_bytes xs here.1)

all_map : (f : ℕ → ℕ) (p q : ℕ → Bool) → ((b : ℕ) → b < 256 → p b ≡ true → q (f b) ≡ true) → (n w : ℕ) → list_all p (low_bytes n w) ≡ true → list_all q (map f (low_bytes n w)) ≡ true
unfolding low_bytes
all_map f p q told zero w h = refl
all_map f p q told (suc n) w h =
    let here : (p (w % 256) ≡ true) × (list_all p (low_bytes n (w / 256)) ≡ true) = and_parts _ _ h in
    and_from _ _ (told (w % 256) (omega arith) here.0) (all_map f p q told n (w / 256) here.1)

-- Words whose bytes are told of those of one word, added.
module _ (w : ℕ) where
  pub each_sum : (k : ℕ) (f g h : ℕ → ℕ) (p : ℕ → Bool) (u v : ℕ) → ((b : ℕ) → b < 256 → p b ≡ true → f b + k * g b ≡ h b) → ((b : ℕ) → b < 256 → p b ≡ true → h b < 256) → u < 2 ^ 64 → v < 2 ^ 64 → low_bytes 8 u ≡ map f (low_bytes 8 w) → low_bytes 8 v ≡ map g (low_bytes 8 w) → list_all p (low_bytes 8 w) ≡ true → low_bytes 8 ((u + v * k % 2 ^ 64) % 2 ^ 64) ≡ map h (low_bytes 8 w)
  each_sum k f g h p u v balance small i j is js e =
      let all : u + k * v ≡ number binary (map h (low_bytes 8 w)) =
      ap (λ x. x + k * v) (sym (number_is w u f i is)) ∙ ap (λ x. number binary (map f (low_bytes 8 w)) + k * x) (sym (number_is w v g j js)) ∙ number_sum k f g h p balance 8 w e in
      let turn : v * k ≡ k * v = mul_comm v k in
      ap (low_bytes 8) (omega arith) ∙ by_number h p (u + v * k) w small e (ap (λ x. u + x) turn ∙ all)

  pub map_again : (f g : ℕ → ℕ) (u v : ℕ) → low_bytes 8 u ≡ map f (low_bytes 8 w) → low_bytes 8 v ≡ map g (low_bytes 8 u) → low_bytes 8 v ≡ map (λ b. g (f b)) (low_bytes 8 w)
  map_again f g u v e k = k ∙ ap (map g) e ∙ twice (low_bytes 8 w)
    where
      twice : (xs : List ℕ) → map g (map f xs) ≡ map (λ b. g (f b)) xs
      twice [] = refl
      twice (x ∷ xs) = ap (λ l. g (f x) ∷ l) (twice xs)

  pub all_told : (f : ℕ → ℕ) (p q : ℕ → Bool) (u : ℕ) → low_bytes 8 u ≡ map f (low_bytes 8 w) → ((b : ℕ) → b < 256 → p b ≡ true → q (f b) ≡ true) → list_all p (low_bytes 8 w) ≡ true → list_all q (low_bytes 8 u) ≡ true
  all_told f p q u e told h = ap (list_all q) e ∙ all_map f p q told 8 w h

  pub all_below : (p q : ℕ → Bool) → ((b : ℕ) → b < 256 → p b ≡ true → q b ≡ true) → list_all p (low_bytes 8 w) ≡ true → list_all q (low_bytes 8 w) ≡ true
  all_below p q told h = all_told (λ b. b) p q w (sym (map-id (low_bytes 8 w))) told h

apart : (a b c d : Bool) → ((a && b) && (c && d)) ≡ ((a && c) && (b && d))
apart true b true d = refl
apart true true false d = refl
apart true false false d = refl
apart false b c d = refl

digits_by : (xs : List ℕ) → (list_all (λ b. eqb b 0) (map (reached 10) (map (λ b. b / 16) xs)) && list_all (λ b. eqb b 0) (map (reached 10) (map (λ b. b % 16) xs))) ≡ list_all two_digits xs
digits_by [] = refl
digits_by (x ∷ xs) =
    let one : (eqb (reached 10 (x / 16)) 0 && eqb (reached 10 (x % 16)) 0) ≡ two_digits x = grind (arith, nat_tests) in
    apart (eqb (reached 10 (x / 16)) 0) (list_all (λ b. eqb b 0) (map (reached 10) (map (λ b. b / 16) xs))) (eqb (reached 10 (x % 16)) 0) (list_all (λ b. eqb b 0) (map (reached 10) (map (λ b. b % 16) xs)))
    ∙ (λ i. one i && digits_by xs i)

pub digits_told : (w h l u v : ℕ) → low_bytes 8 h ≡ map (λ b. b / 16) (low_bytes 8 w) → low_bytes 8 l ≡ map (λ b. b % 16) (low_bytes 8 w) → low_bytes 8 u ≡ map (reached 10) (low_bytes 8 h) → low_bytes 8 v ≡ map (reached 10) (low_bytes 8 l) → u < 2 ^ 64 → v < 2 ^ 64 → (eqb u 0 && eqb v 0) ≡ list_all two_digits (low_bytes 8 w)
digits_told w h l u v eh el eu ev hu hv =
    let high : eqb u 0 ≡ list_all (λ b. eqb b 0) (map (reached 10) (map (λ b. b / 16) (low_bytes 8 w))) = sym (zero_low 8 u hu) ∙ ap (list_all (λ b. eqb b 0)) (eu ∙ ap (map (reached 10)) eh) in
    let low : eqb v 0 ≡ list_all (λ b. eqb b 0) (map (reached 10) (map (λ b. b % 16) (low_bytes 8 w))) = sym (zero_low 8 v hv) ∙ ap (list_all (λ b. eqb b 0)) (ev ∙ ap (map (reached 10)) el) in
    (λ i. high i && low i) ∙ digits_by (low_bytes 8 w)

pub rest_balance : (k b : ℕ) → rest k b + k * reached k b ≡ b
rest_balance k b = by_case (leb k b) refl
  where
    by_case : (t : Bool) → leb k b ≡ t → cond t (b - k) b + k * bit t ≡ b
    by_case true e = grind (arith, nat_tests, mul-one k)
    by_case false e = omega (arith, mul-zero k)

take_map : (f : ℕ → ℕ) (n : ℕ) (xs : List ℕ) → take n (map f xs) ≡ map f (take n xs)
take_map f zero xs = refl
take_map f (suc n) [] = refl
take_map f (suc n) (x ∷ xs) = ap (λ l. f x ∷ l) (take_map f n xs)

-- What holds of eight bytes holds of fewer, and what holds of all that are not zero holds of all.
pub part_map : (f : ℕ → ℕ) (n w u : ℕ) → n ≤ 8 → low_bytes 8 u ≡ map f (low_bytes 8 w) → low_bytes n u ≡ map f (low_bytes n w)
part_map f n w u h e = sym (take_low n 8 u h) ∙ ap (take n) e ∙ take_map f n (low_bytes 8 w) ∙ ap (map f) (take_low n 8 w h)

all_part : (p : ℕ → Bool) (n m w : ℕ) → n ≤ m → list_all p (low_bytes m w) ≡ true → list_all p (low_bytes n w) ≡ true
unfolding low_bytes
all_part p zero m w h e = refl
all_part p (suc n) zero w h e = absurd (omega arith)
all_part p (suc n) (suc m) w h e =
    let here : (p (w % 256) ≡ true) × (list_all p (low_bytes m (w / 256)) ≡ true) = and_parts _ _ e in
    and_from _ _ here.0 (all_part p n m (w / 256) (omega arith) here.1)

pub part_all : (p : ℕ → Bool) (n w : ℕ) → n ≤ 8 → list_all p (low_bytes 8 w) ≡ true → list_all p (low_bytes n w) ≡ true
part_all p n w h e = all_part p n 8 w h e

higher_all : (p : ℕ → Bool) (n m w : ℕ) → p 0 ≡ true → w < 2 ^ (8 * n) → list_all p (low_bytes n w) ≡ true → list_all p (low_bytes m w) ≡ true
unfolding low_bytes
higher_all p n zero w z h e = refl
higher_all p zero (suc m) zero z h e = and_from _ _ z (higher_all p zero m zero z h e)
higher_all p zero (suc m) (suc w) z h e = absurd (omega arith)
higher_all p (suc n) (suc m) w z h e =
    let here : (p (w % 256) ≡ true) × (list_all p (low_bytes n (w / 256)) ≡ true) = and_parts _ _ e in
    and_from _ _ here.0 (higher_all p n m (w / 256) z (rest_below n w h) here.1)

pub all_eight : (p : ℕ → Bool) (n w : ℕ) → p 0 ≡ true → w < 2 ^ (8 * n) → list_all p (low_bytes n w) ≡ true → list_all p (low_bytes 8 w) ≡ true
all_eight p n w z h e = higher_all p n 8 w z h e

sized_all : (p : ℕ → Bool) (n : ℕ) (ys : List ℕ) → p 0 ≡ true → list_all p ys ≡ true → list_all p (sized n ys) ≡ true
sized_all p zero ys z h = refl
sized_all p (suc n) [] z h = and_from _ _ z (sized_all p n [] z refl)
sized_all p (suc n) (y ∷ ys) z h =
    let here : (p y ≡ true) × (list_all p ys ≡ true) = and_parts _ _ h in
    and_from _ _ here.0 (sized_all p n ys z here.1)

-- An operand cut to a length can be counted with where it could be as it was.
sized_digits : (n : ℕ) (r s : Row) → bytes_of s ≡ sized n (bytes_of r) → all_bytes two_digits r.word ≡ true → all_bytes two_digits s.word ≡ true
sized_digits n r s e h = all_eight two_digits s.len s.word refl s.cut (ap (list_all two_digits) e ∙ sized_all two_digits n (bytes_of r) refl (part_all two_digits r.len r.word r.short h))

none_refused : (xs : List ℕ) → list_all two_digits xs ≡ true → first_refused decimal xs ≡ None
none_refused [] h = refl
none_refused (x ∷ xs) h =
    let here : (two_digits x ≡ true) × (list_all two_digits xs ≡ true) = and_parts _ _ h in
    grind (arith, here.0, none_refused xs here.1)

pub counted : (d : Bool) (from : ℕ) (r : Row) → countable d r ≡ true → digits_of d from (bytes_of r) ≡ Ok tt
counted false from r h = refl
counted true from r h = ap (index_from from) (none_refused (bytes_of r) (part_all two_digits r.len r.word r.short h))

pub one_counts : (d : Bool) (r : Row) → r.word ≡ 1 → countable d r ≡ true
unfolding low_bytes
one_counts false r e = refl
one_counts true r e = ap (all_bytes two_digits) e

pub sized_counts : (d : Bool) (n : ℕ) (r s : Row) → bytes_of s ≡ sized n (bytes_of r) → countable d r ≡ true → countable d s ≡ true
sized_counts true n r s e h = sized_digits n r s e h
sized_counts false n r s e h = refl
