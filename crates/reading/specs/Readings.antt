-- The readings that instructions are made of.
use Rattle.std.specs.Prelude.{◌≡◌, ℕ, zero, suc, ◌+◌, List, [], ◌∷◌, Ok, Err, Option, Result}
use Rattle.byte_rows.specs.Rows.{pair}
use Rattle.bus.specs.Meaning.{Meaning}
use Rattle.bus.specs.declared.refusal.BusRefusal.{BusRefusal}
use Rattle.reading.specs.declared.fault.Fault.{Fault}
use Rattle.reading.specs.declared.reads.BusReader.{BusReader}
use Rattle.reading.specs.Sheets.{noted}
use Rattle.reading.specs.Trees.{wrap, Tree, done, ask, inquire, came, asked, bind}

-- Addresses wrap: after 65,535 comes 0.
abbrev pub next : ℕ → ℕ
next a = wrap (a + 1)

-- One byte.
abbrev pub byte_tree : ℕ → Tree ℕ
byte_tree a = ask a (λ b. done b)

-- A pair, low byte first.
abbrev pub pair_tree : ℕ → Tree ℕ
pair_tree a = ask a (λ low. ask (next a) (λ high. done (pair low high)))

-- n bytes upward.
abbrev pub row_tree : ℕ → ℕ → Tree (List ℕ)
row_tree zero a = done []
row_tree (suc n) a = ask a (λ b. bind (row_tree n (next a)) (λ bs. done (b ∷ bs)))

-- Stores of n bytes upward, each inquired about.
abbrev pub stores_tree : ℕ → ℕ → Tree (Unit {0})
stores_tree zero a = done tt
stores_tree (suc n) a = inquire a (stores_tree n (next a))

-- With `before` told before the tree is asked, r comes of it and `after` is told after it.
pub record Reads {A : Type 0} (m : Meaning) (sheet : List ℕ) (t : Tree A) (before : Option ℕ) (r : Result A Fault) (after : Option ℕ) : Type 0 where
  pub result : r ≡ came m t
  pub told : after ≡ noted sheet before (asked m t)

-- A reader that asked the tree: r came of it, and nothing of the reader changes but what is told.
pub record ReadsBy {B A : Type 0} (meaning : B → Meaning) (before : BusReader B) (t : Tree A) (r : Result A Fault) (after : BusReader B) : Type 0 where
  pub read : Reads (meaning before.bus.now) before.sheet.now t before.told r after.told
  pub bus : after.bus.now ≡ before.bus.now
  pub sheet : after.sheet.now ≡ before.sheet.now

-- A row that was filled, with the answer that it was filled.
abbrev pub row_with : List ℕ → Result (Unit {0}) Fault → Result (List ℕ) Fault
row_with row (Ok u) = Ok row
row_with row (Err f) = Err f

-- A byte that was read takes the place of another, and more are read; a refusal leaves the rest as it was.
abbrev pub got_by : {E : Type 0} → Result ℕ E → ℕ → List ℕ → List ℕ → List ℕ
got_by (Ok b) x xs more = b ∷ more
got_by (Err r) x xs more = x ∷ xs

-- What stands in a row after as many bytes as could be read upward were put into it.
abbrev pub row_got : (ℕ → Result ℕ BusRefusal) → ℕ → List ℕ → List ℕ
row_got reads a [] = []
row_got reads a (x ∷ xs) = got_by (reads (wrap a)) x xs (row_got reads (next a) xs)
