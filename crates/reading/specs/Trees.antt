-- What is asked of the bus: it ends with a value or a fault of its own, asks for the byte at an address and goes on by it, or
-- inquires whether a store to an address would be taken.
use Rattle.std.specs.Prelude.{ℕ, ◌%◌, List, [], ◌∷◌, Ok, Err, Result}
use Rattle.bus.specs.declared.refusal.BusRefusal.{BusRefusal}
use Rattle.bus.specs.Meaning.{Meaning}
use Rattle.reading.specs.declared.fault.Fault.{Fault}
use Rattle.reading.specs.declared.fault.Fault.TheVariants.{Bus}

-- An address has sixteen bits.
abbrev pub wrap : ℕ → ℕ
wrap a = a % 65536

pub data Tree (A : Type 0) : Type 0 where
  done : A → Tree A
  stop : Fault → Tree A
  ask : ℕ → (ℕ → Tree A) → Tree A
  inquire : ℕ → Tree A → Tree A

-- What the bus refuses stops it, with the address.
abbrev pub heard : {X A : Type 0} → ℕ → Result X BusRefusal → (X → Result A Fault) → Result A Fault
heard a (Ok b) k = k b
heard a (Err r) k = Err (Bus a r)

-- What comes of it, on a bus of this meaning.
abbrev pub came : {A : Type 0} → Meaning → Tree A → Result A Fault
came m (done x) = Ok x
came m (stop f) = Err f
came m (ask a k) = heard a (m.reads (wrap a)) (λ b. came m (k b))
came m (inquire a t) = heard a (m.takes (wrap a)) (λ _. came m t)

abbrev pub onward : {X : Type 0} → Result X BusRefusal → (X → List ℕ) → List ℕ
onward (Ok b) k = k b
onward (Err r) k = []

-- The addresses whose bytes it asks for, in order, a refused one too.
abbrev pub asked : {A : Type 0} → Meaning → Tree A → List ℕ
asked m (done x) = []
asked m (stop f) = []
asked m (ask a k) = wrap a ∷ onward (m.reads (wrap a)) (λ b. asked m (k b))
asked m (inquire a t) = onward (m.takes (wrap a)) (λ _. asked m t)

-- One after another.
abbrev pub bind : {A C : Type 0} → Tree A → (A → Tree C) → Tree C
bind (done x) f = f x
bind (stop e) f = stop e
bind (ask a k) f = ask a (λ b. bind (k b) f)
bind (inquire a t) f = inquire a (bind t f)

-- A value or a fault for which nothing is asked.
abbrev pub given : {A : Type 0} → Result A Fault → Tree A
given (Ok x) = done x
given (Err f) = stop f

-- A value is changed, a fault stays.
abbrev pub map_ok : {A C : Type 0} → (A → C) → Result A Fault → Result C Fault
map_ok f (Ok x) = Ok (f x)
map_ok f (Err e) = Err e
