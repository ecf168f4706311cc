-- Stores made one by one.
use Rattle.std.proofs.Common.{◌≡◌, ℕ, ◌+◌, ◌%◌, ◌<◌, ◌≤◌, Bool, List, ◌∷◌, length, get_or, drop, Ok, Err, Result, sym, refl, ap, ◌∙◌, arith}
use Rattle.std.proofs.lemmas.List.{drop_more, drop_all}
use Rattle.bus.specs.declared.refusal.BusRefusal.{BusRefusal}
use Rattle.bus.specs.Meaning.{Meaning, stored, after, if_ok}
use Rattle.reading.specs.Trees.{wrap}
use Rattle.reading.specs.Readings.{next}
use Rattle.stains.specs.Marks.{mark}
use Rattle.stains.specs.Stores.{Store, upward, taken, stored_all, marked_all}

-- the address of byte i, and the stores from there on
abbrev pub place : ℕ → ℕ → ℕ
place a i = (a + i % 65536) % 65536

abbrev pub left : ℕ → List ℕ → ℕ → List Store
left a bytes i = upward (place a i) (drop i bytes)

abbrev pub one : ℕ → ℕ → Store
one a b = record { at = a; byte = b }

-- what is left to store comes to what there was
pub record Making (stain : Bool) (a : ℕ) (bytes : List ℕ) (m₀ : Meaning) (sheet₀ : List ℕ) (i : ℕ) (m : Meaning) (sheet : List ℕ) : Type 0 where
  pub stores : stored_all (taken m.takes (left a bytes i)) m ≡ stored_all (taken m₀.takes (upward a bytes)) m₀
  pub marks : marked_all stain (taken m.takes (left a bytes i)) sheet ≡ marked_all stain (taken m₀.takes (upward a bytes)) sheet₀

module _ (stain : Bool) (a : ℕ) (bytes : List ℕ) (m₀ : Meaning) (sheet₀ : List ℕ) where
  pub making_begins : a < 65536 → Making stain a bytes m₀ sheet₀ 0 m₀ sheet₀
  making_begins h =
      let e : place a 0 ≡ a = omega arith in
      record {
        stores = ap (λ x. stored_all (taken m₀.takes (upward x bytes)) m₀) e;
        marks = ap (λ x. marked_all stain (taken m₀.takes (upward x bytes)) sheet₀) e;
      }

  stores_by : (r : Result (Unit {0}) BusRefusal) (at b : ℕ) (rest : List Store) (m : Meaning) → stored_all (taken (if_ok r (stored m (wrap at) b) m).takes rest) (if_ok r (stored m (wrap at) b) m) ≡ stored_all (if_ok r (one at b ∷ taken m.takes rest) (taken m.takes rest)) m
  stores_by (Ok u) at b rest m = refl
  stores_by (Err e) at b rest m = refl

  marks_by : (r : Result (Unit {0}) BusRefusal) (at b : ℕ) (rest : List Store) (m : Meaning) (sheet : List ℕ) → marked_all stain (taken (if_ok r (stored m (wrap at) b) m).takes rest) (if_ok r (mark stain (wrap at) sheet) sheet) ≡ marked_all stain (if_ok r (one at b ∷ taken m.takes rest) (taken m.takes rest)) sheet
  marks_by (Ok u) at b rest m sheet = refl
  marks_by (Err e) at b rest m sheet = refl

  module _ (i : ℕ) (m : Meaning) (sheet : List ℕ) (h : i < length bytes) (k : Making stain a bytes m₀ sheet₀ i m sheet) where
    abbrev at : ℕ
    at = place a i

    abbrev byte : ℕ
    byte = get_or bytes i 0

    rest : left a bytes i ≡ one at byte ∷ left a bytes (i + 1)
    rest =
        let e : place a (i + 1) ≡ next (place a i) = omega arith in
        ap (upward (place a i)) (drop_more bytes i 0 h) ∙ ap (λ x. one at byte ∷ upward x (drop (i + 1) bytes)) (sym e)

    whole : wrap at ≡ at
    whole = omega arith

    pub making_more : (m' : Meaning) (sheet' : List ℕ) → m' ≡ after m at byte → sheet' ≡ if_ok (m.takes at) (mark stain at sheet) sheet → Making stain a bytes m₀ sheet₀ (i + 1) m' sheet'
    making_more m' sheet' e f =
        let stores = rw rest at k.stores in
        let marks = rw rest at k.marks in
        let e' : m' ≡ if_ok (m.takes (wrap at)) (stored m (wrap at) byte) m = e ∙ ap (λ x. after m x byte) (sym whole) in
        let f' : sheet' ≡ if_ok (m.takes (wrap at)) (mark stain (wrap at) sheet) sheet = f ∙ ap (λ x. if_ok (m.takes x) (mark stain x sheet) sheet) (sym whole) in
        record {
          stores = ap (λ n. stored_all (taken n.takes (left a bytes (i + 1))) n) e' ∙ stores_by (m.takes (wrap at)) at byte (left a bytes (i + 1)) m ∙ stores;
          marks = (λ z. marked_all stain (taken (e' z).takes (left a bytes (i + 1))) (f' z)) ∙ marks_by (m.takes (wrap at)) at byte (left a bytes (i + 1)) m sheet ∙ marks;
        }

  pub making_done : (i : ℕ) (m : Meaning) (sheet : List ℕ) → length bytes ≤ i → Making stain a bytes m₀ sheet₀ i m sheet → (m ≡ stored_all (taken m₀.takes (upward a bytes)) m₀) × (sheet ≡ marked_all stain (taken m₀.takes (upward a bytes)) sheet₀)
  making_done i m sheet h k =
      let e = drop_all i bytes h in
      (rw e at k.stores, rw e at k.marks)
