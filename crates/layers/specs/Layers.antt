-- What each layer makes of what the bus below it means.
use Rattle.std.specs.Prelude.{ℕ, ◌/◌, ◌%◌, Bool, cond, ◌&&◌, Some, None, Ok, Err, Option, Result, ◌==◌, nat_le, nat_lt}
use Rattle.bus.specs.declared.refusal.BusRefusal.{BusRefusal}
use Rattle.bus.specs.declared.refusal.Cause.TheVariants.{Guarded, OutsideShadow}
use Rattle.bus.specs.Meaning.{Meaning, here, raised, if_ok}

-- A guard is write protection: it locks the addresses from its first to its last against stores.
abbrev pub guarded : ℕ → ℕ → ℕ → Bool
guarded first last a = nat_le first a && nat_le a last

-- A store to a locked address is refused.
abbrev pub guard_admits : ℕ → ℕ → ℕ → Result (Unit {0}) BusRefusal
guard_admits first last a = cond (guarded first last a) (Err (here Guarded)) (Ok tt)

-- A locked address is refused stores; all else is the bus below.
abbrev pub guard_meaning : ℕ → ℕ → Meaning → Meaning
guard_meaning first last m = record { reads = λ a. raised (m.reads a); takes = λ a. cond (guarded first last a) (Err (here Guarded)) (raised (m.takes a)) }

-- A split is an address decoder: the addresses under its bound go to its first bus and the others to its second.
abbrev pub split_meaning : ℕ → Meaning → Meaning → Meaning
split_meaning at low high = record { reads = λ a. raised (cond (nat_lt a at) (low.reads a) (high.reads a)); takes = λ a. raised (cond (nat_lt a at) (low.takes a) (high.takes a)) }

-- A shadow is a copy-on-write page: it covers 256 addresses, and what is stored to them stays in it.
abbrev pub in_page : ℕ → ℕ → Bool
in_page page a = a / 256 == page

-- A byte that the shadow keeps is read back; otherwise the bus below is read.
abbrev pub kept_or : Option ℕ → Result ℕ BusRefusal → Result ℕ BusRefusal
kept_or (Some b) below = Ok b
kept_or None below = below

-- What the shadow of a page keeps at an address, by what it keeps at each place of the page.
abbrev pub kept_at : ℕ → (ℕ → Option ℕ) → ℕ → Option ℕ
kept_at page kept a = cond (in_page page a) (kept (a % 256)) None

-- A byte more is kept, at place i.
abbrev pub kept_also : (ℕ → Option ℕ) → ℕ → ℕ → ℕ → Option ℕ
kept_also kept i b j = cond (j == i) (Some b) (kept j)

-- A store is taken where the bus below can be read; else that read's refusal comes up.
abbrev pub if_readable : Result ℕ BusRefusal → Result (Unit {0}) BusRefusal
if_readable (Ok _) = Ok tt
if_readable (Err r) = Err r

-- A store outside the page is refused; in the page what a read of the bus below gives decides.
abbrev pub shadow_takes : ℕ → Result ℕ BusRefusal → ℕ → Result (Unit {0}) BusRefusal
shadow_takes page below a = cond (in_page page a) (if_readable (raised below)) (Err (here OutsideShadow))

-- A shadow keeps the byte of a store that is taken; the bus below is never stored to.
abbrev pub kept_after : ℕ → (ℕ → Option ℕ) → Result ℕ BusRefusal → ℕ → ℕ → ℕ → Option ℕ
kept_after page kept below a b = if_ok (shadow_takes page below a) (kept_also kept (a % 256) b) kept

-- A byte that the shadow keeps is read from it, all else from below; stores are as said above.
abbrev pub shadow_meaning : ℕ → (ℕ → Option ℕ) → Meaning → Meaning
shadow_meaning page kept m = record { reads = λ a. kept_or (kept_at page kept a) (raised (m.reads a)); takes = λ a. shadow_takes page (m.reads a) a }
