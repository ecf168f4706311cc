-- What a bus means: at each address, what a read gives and what a store gets.
use Rattle.std.specs.Prelude.{ℕ, ◌+◌, ◌-◌, min, Bool, cond, ◌&&◌, List, length, Ok, Err, Result, ◌==◌, nat_le, nat_lt, slice_index}
use Rattle.bus.specs.declared.refusal.BusRefusal.{BusRefusal}
use Rattle.bus.specs.declared.refusal.Cause.{Cause}
use Rattle.bus.specs.declared.refusal.Cause.TheVariants.{NoByte, RomStore, Guarded, OutsideShadow}

-- A read gives a byte or a refusal; a store is taken or refused.
pub record Meaning : Type 0 where
  pub reads : ℕ → Result ℕ BusRefusal
  pub takes : ℕ → Result (Unit {0}) BusRefusal

-- The refusals of a bus are numbered 4 to 7.
abbrev pub cause_number : Cause → ℕ
cause_number NoByte = 4
cause_number RomStore = 5
cause_number Guarded = 6
cause_number OutsideShadow = 7

-- A refusal's number is its cause's; its detail is the address that was asked, which no layer changes, and the depth.
abbrev pub refusal_number : BusRefusal → ℕ
refusal_number r = cause_number r.cause

abbrev pub refusal_detail : ℕ → BusRefusal → ℕ × ℕ
refusal_detail a r = (a, r.depth)

-- A bus that refuses of its own accord does so at depth 0.
abbrev pub here : Cause → BusRefusal
here c = record { cause = c; depth = 0 }

-- A layer adds 1 to the depth of what the bus below refuses; the depth stops at 255.
abbrev pub raised : {X : Type 0} → Result X BusRefusal → Result X BusRefusal
raised (Ok x) = Ok x
raised (Err r) = Err (record { cause = r.cause; depth = min (r.depth + 1) 255 })

-- The byte stands at the address; the rest of the meaning is as it was.
abbrev pub stored : Meaning → ℕ → ℕ → Meaning
stored m a b = record { reads = λ x. cond (x == a) (Ok b) (m.reads x); takes = m.takes }

-- One thing where a call was taken, and another where it was refused.
abbrev pub if_ok : {X Y : Type 0} → Result X BusRefusal → Y → Y → Y
if_ok (Ok _) y z = y
if_ok (Err _) y z = z

-- What a store leaves: a taken one the byte at its address, a refused one all as it was.
abbrev pub after : Meaning → ℕ → ℕ → Meaning
after m a b = if_ok (m.takes a) (stored m a b) m

-- x is one of the n addresses from a on.
abbrev pub among : ℕ → ℕ → ℕ → Bool
among a n x = nat_le a x && nat_lt x (a + n)

-- The bytes stand from the address on; the rest of the meaning is as it was.
abbrev pub loaded : Meaning → ℕ → List ℕ → Meaning
loaded m a bs = record { reads = λ x. cond (among a (length bs) x) (Ok (slice_index bs (x - a))) (m.reads x); takes = m.takes }
