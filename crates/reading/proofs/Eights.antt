-- Addresses that lie in line, none of which is refused or to be told.
use Rattle.std.proofs.Common.{◌≡◌, ℕ, zero, suc, ◌+◌, ◌/◌, ◌%◌, ◌^◌, ◌<◌, ◌≤◌, Bool, true, false, leb, is_some, IfSome, List, [], ◌∷◌, Ok, Some, None, Option, length, get_or, take, sym, refl, ap, ◌∙◌, arith}
use Rattle.std.proofs.Math.Nat.{zero-div}
use Rattle.std.proofs.lemmas.Bool.Decides.{nat_tests}
use Rattle.bus.specs.Eights.{ReadsEight, TakesEight}
use Rattle.bus.specs.Meaning.{Meaning}
use Rattle.reading.specs.Sheets.{note, stained}
use Rattle.reading.specs.Trees.{wrap, Tree, done, bind}
use Rattle.reading.specs.Readings.{ReadsBy, next, byte_tree, row_tree, stores_tree}
use Rattle.reading.specs.declared.reads.BusReader.{BusReader}
use Rattle.reading.proofs.Laws.{then, at_once}

wrap_low : (a : ℕ) → a < 65536 → wrap a ≡ a
wrap_low a h = omega arith

next_low : (a : ℕ) → a < 65536 → next (wrap a) ≡ wrap (a + 1)
next_low a h = omega arith

module _ {B : Type 0} (meaning : B → Meaning) (reader : BusReader B) where
  one_byte : (a b : ℕ) → a < 65536 → (meaning reader.bus.now).reads a ≡ Ok b → note reader.sheet.now reader.told a ≡ reader.told → ReadsBy meaning reader (byte_tree (wrap a)) (Ok b) reader
  one_byte a b h e t = record { read = record { result = rw (wrap_low a h, wrap_low a h, e) refl; told = rw (wrap_low a h, wrap_low a h, e) (sym t) }; bus = refl; sheet = refl }

  pub row_in_line : (n a : ℕ) (bytes : List ℕ) → n ≤ length bytes → a + n ≤ 65536 → ((i : ℕ) → i < n → (meaning reader.bus.now).reads (a + i) ≡ Ok (get_or bytes i 0)) → ((i : ℕ) → i < n → note reader.sheet.now reader.told (a + i) ≡ reader.told) → ReadsBy meaning reader (row_tree n (wrap a)) (Ok (take n bytes)) reader
  row_in_line zero a bytes l h e t = at_once meaning (Ok []) reader
  row_in_line (suc n) a [] l h e t = absurd (omega arith)
  row_in_line (suc n) a (b ∷ bytes) l h e t =
      let rest = row_in_line n (a + 1) bytes (omega arith) (omega arith) (λ i k. ap (meaning reader.bus.now).reads (omega arith) ∙ e (suc i) (omega arith)) (λ i k. ap (note reader.sheet.now reader.told) (omega arith) ∙ t (suc i) (omega arith)) in
      then meaning (byte_tree (wrap a)) (λ x. bind (row_tree n (next (wrap a))) (λ bs. done (x ∷ bs))) b _ _ reader reader reader refl (one_byte a b (omega arith) (ap (meaning reader.bus.now).reads (omega arith) ∙ e 0 (omega arith)) (ap (note reader.sheet.now reader.told) (omega arith) ∙ t 0 (omega arith)))
      (then meaning (row_tree n (next (wrap a))) (λ bs. done (b ∷ bs)) (take n bytes) _ _ reader reader reader refl (rw (next_low a (omega arith)) rest) (at_once meaning (Ok (b ∷ take n bytes)) reader))

  one_store : (n a : ℕ) → a < 65536 → (meaning reader.bus.now).takes a ≡ Ok tt → ReadsBy meaning reader (stores_tree n (wrap (a + 1))) (Ok tt) reader → ReadsBy meaning reader (stores_tree (suc n) (wrap a)) (Ok tt) reader
  one_store n a h e r = record {
    read = record {
      result = rw (wrap_low a h, wrap_low a h, e) r.read.result;
      told = rw (wrap_low a h, wrap_low a h, e) r.read.told;
    };
    bus = refl;
    sheet = refl;
  }

  pub stores_in_line : (n a : ℕ) → a + n ≤ 65536 → ((i : ℕ) → i < n → (meaning reader.bus.now).takes (a + i) ≡ Ok tt) → ReadsBy meaning reader (stores_tree n (wrap a)) (Ok tt) reader
  stores_in_line zero a h e = at_once meaning (Ok tt) reader
  stores_in_line (suc n) a h e = one_store n a (omega arith) (ap (meaning reader.bus.now).takes (omega arith) ∙ e 0 (omega arith)) (stores_in_line n (a + 1) (omega arith) (λ i k. ap (meaning reader.bus.now).takes (omega arith) ∙ e (suc i) (omega arith)))

-- Two bytes of the sheet that are zero have no stain for the addresses from one of the first on.
in_zero : (sheet : List ℕ) (a : ℕ) → get_or sheet (a / 8) 0 ≡ 0 → stained sheet a ≡ false
in_zero sheet a h = rw (h, zero-div (2 ^ (a % 8))) refl

of_either : (sheet : List ℕ) (a i : ℕ) (b : Bool) → leb 8 (a % 8 + i) ≡ b → get_or sheet (a / 8) 0 ≡ 0 → get_or sheet (a / 8 + 1) 0 ≡ 0 → i < 8 → get_or sheet ((a + i) / 8) 0 ≡ 0
of_either sheet a i true e h k l = ap (λ j. get_or sheet j 0) (grind (arith, nat_tests)) ∙ k
of_either sheet a i false e h k l = ap (λ j. get_or sheet j 0) (grind (arith, nat_tests)) ∙ h

pub none_stained : (sheet : List ℕ) (a i : ℕ) → get_or sheet (a / 8) 0 ≡ 0 → get_or sheet (a / 8 + 1) 0 ≡ 0 → i < 8 → stained sheet (a + i) ≡ false
none_stained sheet a i h k l = in_zero sheet (a + i) (of_either sheet a i (leb 8 (a % 8 + i)) refl h k l)

-- Nothing more is told where a stain is told already, or of an address that is not stained.
pub told_before : (sheet : List ℕ) (told : Option ℕ) (a : ℕ) → is_some told ≡ true → note sheet told a ≡ told
told_before sheet None a h = cc
told_before sheet (Some t) a h = refl

pub told_not : (sheet : List ℕ) (told : Option ℕ) (a : ℕ) → stained sheet a ≡ false → note sheet told a ≡ told
told_not sheet None a h = rw h refl
told_not sheet (Some t) a h = refl

if_some_by : {X : Type 0} (o : Option X) (P Q : X → Type 0) → ((x : X) → P x → Q x) → IfSome o P → IfSome o Q
if_some_by None P Q f h = h
if_some_by (Some x) P Q f h = f x h

module _ {B : Type 0} (meaning : B → Meaning) (reader : BusReader B) (a : ℕ) (word : a < 65536) where
  pub inquired_eight : (n : ℕ) → n ≤ 8 → TakesEight (meaning reader.bus.now) a → ReadsBy meaning reader (stores_tree n a) (Ok tt) reader
  inquired_eight n h e = rw (wrap_low a word) at (stores_in_line meaning reader n a (omega (arith, e.0)) (λ i k. e.1 i (omega arith)))

  row_of_eight : ((i : ℕ) → i < 8 → note reader.sheet.now reader.told (a + i) ≡ reader.told) → (bytes : List ℕ) → ReadsEight (meaning reader.bus.now) a bytes → (n : ℕ) → n ≤ 8 → ReadsBy meaning reader (row_tree n a) (Ok (take n bytes)) reader
  row_of_eight t bytes e n h = rw (wrap_low a word) at (row_in_line meaning reader n a bytes (omega (arith, e.0)) (omega (arith, e.1)) (λ i k. e.2 i (omega arith)) (λ i k. t i (omega arith)))

  pub read_eight : (o : Option (List ℕ)) → ((i : ℕ) → i < 8 → note reader.sheet.now reader.told (a + i) ≡ reader.told) → IfSome o (λ bytes. ReadsEight (meaning reader.bus.now) a bytes) → IfSome o (λ bytes. (n : ℕ) → n ≤ 8 → ReadsBy meaning reader (row_tree n a) (Ok (take n bytes)) reader)
  read_eight o t e = if_some_by o _ _ (row_of_eight t) e
