-- Stores, one after another.
use Rattle.std.specs.Prelude.{◌≡◌, ℕ, Bool, false, ◌||◌, List, [], ◌∷◌, Ok, Result, ◌==◌}
use Rattle.bus.specs.declared.refusal.BusRefusal.{BusRefusal}
use Rattle.bus.specs.Meaning.{Meaning, stored, if_ok}
use Rattle.reading.specs.Trees.{wrap}
use Rattle.reading.specs.Readings.{next}
use Rattle.stains.specs.Marks.{mark}

-- A byte stored to an address of sixteen bits.
pub record Store : Type 0 where
  pub at : ℕ
  pub byte : ℕ

-- Bytes stored upward from an address; after 65,535 comes 0.
abbrev pub upward : ℕ → List ℕ → List Store
upward a [] = []
upward a (b ∷ bs) = (record { at = a; byte = b }) ∷ upward (next a) bs

-- Those of the stores that a bus takes. What it takes does not change by stores.
abbrev pub taken : (ℕ → Result (Unit {0}) BusRefusal) → List Store → List Store
taken takes [] = []
taken takes (s ∷ ss) = if_ok (takes (wrap s.at)) (s ∷ taken takes ss) (taken takes ss)

-- The bus takes every one of the stores.
abbrev pub AllTaken : Meaning → List Store → Type 0
AllTaken m [] = Unit {0}
AllTaken m (s ∷ ss) = (m.takes (wrap s.at) ≡ Ok tt) × AllTaken m ss

-- What the bus means after stores that it takes.
abbrev pub stored_all : List Store → Meaning → Meaning
stored_all [] m = m
stored_all (s ∷ ss) m = stored_all ss (stored m (wrap s.at) s.byte)

-- Each store sets the stain of its address, or clears it.
abbrev pub marked_all : Bool → List Store → List ℕ → List ℕ
marked_all stain [] sheet = sheet
marked_all stain (s ∷ ss) sheet = marked_all stain ss (mark stain (wrap s.at) sheet)

-- Whether one of the stores is to the address.
abbrev pub stores_to : List Store → ℕ → Bool
stores_to [] a = false
stores_to (s ∷ ss) a = a == wrap s.at || stores_to ss a
