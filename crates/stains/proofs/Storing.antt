-- What a list of stores does to bytes and stains.
use Rattle.std.proofs.Common.{◌≡◌, ℕ, zero, suc, ◌/◌, ◌%◌, ◌^◌, ◌<◌, Bool, true, false, cond, ◌||◌, eqb, List, [], ◌∷◌, length, get_or, replicate, Ok, sym, refl, ap, ◌∙◌, true≢false, mod-lt, lit<}
use native.Mathlib.Nat.{zero-div}
use lib.ListN.{length-replicate}
use Rattle.byte_rows.specs.Rows.{zeros}
use Rattle.bus.specs.Meaning.{Meaning, stored, if_ok}
use Rattle.reading.specs.Sheets.{stained}
use Rattle.reading.specs.Trees.{wrap}
use Rattle.stains.specs.Marks.{mark, blank}
use Rattle.stains.specs.Stores.{Store, taken, AllTaken, stored_all, marked_all, stores_to}
use Rattle.stains.proofs.Bits.{length_mark, stained_mark}

pub wraps : (a : ℕ) → wrap a < 65536
wraps a = mod-lt a (lit< tt)

-- two buses read the same off the stains
abbrev pub OffStains : List ℕ → Meaning → Meaning → Type 0
OffStains sheet m n = (a : ℕ) → a < 65536 → stained sheet a ≡ false → m.reads a ≡ n.reads a

abbrev pub Spotless : List ℕ → Type 0
Spotless sheet = (a : ℕ) → a < 65536 → stained sheet a ≡ false

-- the sheet keeps its size
pub marked_length : (v : Bool) (ss : List Store) (sheet : List ℕ) → length (marked_all v ss sheet) ≡ length sheet
marked_length v [] sheet = refl
marked_length v (s ∷ ss) sheet = marked_length v ss (mark v (wrap s.at) sheet) ∙ length_mark v (wrap s.at) sheet

module _ (s : Store) (sheet : List ℕ) (size : length sheet ≡ 8192) where
  at_mark : (v : Bool) (x : ℕ) → x < 65536 → stained (mark v (wrap s.at) sheet) x ≡ cond (eqb x (wrap s.at)) v (stained sheet x)
  at_mark v x h = stained_mark v (wrap s.at) x sheet size (wraps s.at) h

  mark_size : (v : Bool) → length (mark v (wrap s.at) sheet) ≡ 8192
  mark_size v = length_mark v (wrap s.at) sheet ∙ size

  -- a store on both buses, and one that stains on one of them
  both_one : (m n : Meaning) → OffStains sheet m n → OffStains (mark false (wrap s.at) sheet) (stored m (wrap s.at) s.byte) (stored n (wrap s.at) s.byte)
  both_one m n h x l e = go (eqb x (wrap s.at)) (sym (at_mark false x l) ∙ e)
    where
      go : (b : Bool) → cond b false (stained sheet x) ≡ false → cond b (Ok s.byte) (m.reads x) ≡ cond b (Ok s.byte) (n.reads x)
      go true e = refl
      go false e = h x l e

  stained_one : (m n : Meaning) → OffStains sheet m n → OffStains (mark true (wrap s.at) sheet) (stored m (wrap s.at) s.byte) n
  stained_one m n h x l e = go (eqb x (wrap s.at)) (sym (at_mark true x l) ∙ e)
    where
      go : (b : Bool) → cond b true (stained sheet x) ≡ false → cond b (Ok s.byte) (m.reads x) ≡ n.reads x
      go true e = absurd (true≢false e)
      go false e = h x l e

  cleared_one : Spotless sheet → Spotless (mark false (wrap s.at) sheet)
  cleared_one h x l = at_mark false x l ∙ go (eqb x (wrap s.at))
    where
      go : (b : Bool) → cond b false (stained sheet x) ≡ false
      go true = refl
      go false = h x l

pub both_stored : (ss : List Store) (sheet : List ℕ) → length sheet ≡ 8192 → (m n : Meaning) → OffStains sheet m n → OffStains (marked_all false ss sheet) (stored_all ss m) (stored_all ss n)
both_stored [] sheet size m n h = h
both_stored (s ∷ ss) sheet size m n h = both_stored ss (mark false (wrap s.at) sheet) (mark_size s sheet size false) (stored m (wrap s.at) s.byte) (stored n (wrap s.at) s.byte) (both_one s sheet size m n h)

pub one_stained : (ss : List Store) (sheet : List ℕ) → length sheet ≡ 8192 → (m n : Meaning) → OffStains sheet m n → OffStains (marked_all true ss sheet) (stored_all ss m) n
one_stained [] sheet size m n h = h
one_stained (s ∷ ss) sheet size m n h = one_stained ss (mark true (wrap s.at) sheet) (mark_size s sheet size true) (stored m (wrap s.at) s.byte) n (stained_one s sheet size m n h)

pub cleared : (ss : List Store) (sheet : List ℕ) → length sheet ≡ 8192 → Spotless sheet → Spotless (marked_all false ss sheet)
cleared [] sheet size h = h
cleared (s ∷ ss) sheet size h = cleared ss (mark false (wrap s.at) sheet) (mark_size s sheet size false) (cleared_one s sheet size h)

-- which stores are taken does not change
pub takes_stay : (ss : List Store) (m : Meaning) → (stored_all ss m).takes ≡ m.takes
takes_stay [] m = refl
takes_stay (s ∷ ss) m = takes_stay ss (stored m (wrap s.at) s.byte)

-- a stain after stores: as they set it where they stored, and else as it was
cond_or : (v c p q : Bool) → cond q v (cond p v c) ≡ cond (p || q) v c
cond_or v c true true = refl
cond_or v c true false = refl
cond_or v c false q = refl

pub marked_is : (v : Bool) (ss : List Store) (sheet : List ℕ) → length sheet ≡ 8192 → (x : ℕ) → x < 65536 → stained (marked_all v ss sheet) x ≡ cond (stores_to ss x) v (stained sheet x)
marked_is v [] sheet size x h = refl
marked_is v (s ∷ ss) sheet size x h = marked_is v ss (mark v (wrap s.at) sheet) (mark_size s sheet size v) x h ∙ ap (λ b. cond (stores_to ss x) v b) (at_mark s sheet size v x h) ∙ cond_or v (stained sheet x) (eqb x (wrap s.at)) (stores_to ss x)

-- stores that the bus takes are all made
pub all_taken : (m : Meaning) (ss : List Store) → AllTaken m ss → taken m.takes ss ≡ ss
all_taken m [] t = refl
all_taken m (s ∷ ss) t = ap (λ r. if_ok r (s ∷ taken m.takes ss) (taken m.takes ss)) t.0 ∙ ap (λ l. s ∷ l) (all_taken m ss t.1)

-- the blank sheet
zero_at : (n i : ℕ) → ◌≡◌ {A = ℕ} (get_or (replicate n 0) i 0) 0
zero_at zero i = refl
zero_at (suc n) zero = refl
zero_at (suc n) (suc i) = zero_at n i

pub blank_size : length blank ≡ 8192
unfolding blank zeros
blank_size = length-replicate {A = ℕ} 8192 0

pub blank_spotless : Spotless blank
unfolding blank zeros
blank_spotless a h = ap (λ b. eqb (b / 2 ^ (a % 8) % 2) 1) (zero_at 8192 (a / 8)) ∙ ap (λ n. eqb (n % 2) 1) (zero-div (2 ^ (a % 8)))
