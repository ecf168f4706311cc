-- Piles of any height: a pile is a bus that is seen through layers, one over another.
use Rattle.std.specs.Prelude.{◌≡◌, ℕ, suc, ◌+◌, min, true, false, cond, Some, None, Ok, Err, Option, Result, nat_lt}
use Rattle.bus.specs.declared.refusal.BusRefusal.{BusRefusal}
use Rattle.bus.specs.declared.refusal.Cause.TheVariants.{Guarded, OutsideShadow}
use Rattle.bus.specs.Meaning.{Meaning, here, after}
use Rattle.bus.specs.Rules.{Rules}
use Rattle.layers.specs.Layers.{guarded, in_page, kept_at, kept_after, if_readable, guard_meaning, split_meaning, shadow_meaning}
use Rattle.layers.specs.Kept.{guard_rules, split_rules, shadow_rules, after_rules}

-- A pile is a bus that keeps the rules, or a layer over piles.
pub data Layered : Type 0 where
  bottom : (m : Meaning) → Rules m → Layered
  guard : ℕ → ℕ → Layered → Layered
  split : ℕ → Layered → Layered → Layered
  shadow : ℕ → (ℕ → Option ℕ) → Layered → Layered

-- What a pile reads, stores and refuses follows from what is below, by the layers' rules.
abbrev pub pile_meaning : Layered → Meaning
pile_meaning (bottom m r) = m
pile_meaning (guard first last p) = guard_meaning first last (pile_meaning p)
pile_meaning (split at p q) = split_meaning at (pile_meaning p) (pile_meaning q)
pile_meaning (shadow page kept p) = shadow_meaning page kept (pile_meaning p)

-- It keeps the bus rules, since each layer does over what keeps them.
pub pile_rules : (p : Layered) → Rules (pile_meaning p)
pile_rules (bottom m r) = r
pile_rules (guard first last p) = guard_rules first last (pile_meaning p) (pile_rules p)
pile_rules (split at p q) = split_rules at (pile_meaning p) (pile_meaning q) (pile_rules p) (pile_rules q)
pile_rules (shadow page kept p) = shadow_rules page kept (pile_meaning p) (pile_rules p)

-- A store goes down to where it is taken or refused: to the bus at the bottom, or to a shadow that keeps the byte.
abbrev pub put : Layered → ℕ → ℕ → Layered
put (bottom m r) a b = bottom (after m a b) (after_rules m a b r)
put (guard first last p) a b = guard first last (cond (guarded first last a) p (put p a b))
put (split at p q) a b = split at (cond (nat_lt a at) (put p a b) p) (cond (nat_lt a at) q (put q a b))
put (shadow page kept p) a b = shadow page (kept_after page kept ((pile_meaning p).reads a) a b) p

-- A read goes down n layers and is answered there: by the bus at the bottom, or by a shadow that keeps a byte.
pub data Answers (a : ℕ) : Layered → ℕ → Result ℕ BusRefusal → Type 0 where
  by_bottom : (m : Meaning) (r : Rules m) → Answers a (bottom m r) 0 (m.reads a)
  by_shadow : (page b : ℕ) (kept : ℕ → Option ℕ) (p : Layered) → kept_at page kept a ≡ Some b → Answers a (shadow page kept p) 0 (Ok b)
  under_guard : (first last : ℕ) {p : Layered} {n : ℕ} {x : Result ℕ BusRefusal} → Answers a p n x → Answers a (guard first last p) (suc n) x
  under_split_low : (at : ℕ) (q : Layered) {p : Layered} {n : ℕ} {x : Result ℕ BusRefusal} → nat_lt a at ≡ true → Answers a p n x → Answers a (split at p q) (suc n) x
  under_split_high : (at : ℕ) (p : Layered) {q : Layered} {n : ℕ} {x : Result ℕ BusRefusal} → nat_lt a at ≡ false → Answers a q n x → Answers a (split at p q) (suc n) x
  under_shadow : (page : ℕ) (kept : ℕ → Option ℕ) {p : Layered} {n : ℕ} {x : Result ℕ BusRefusal} → kept_at page kept a ≡ None → Answers a p n x → Answers a (shadow page kept p) (suc n) x

-- A store is judged n layers down: by a guard, by a shadow, or by the bus at the bottom.
pub data Judges (a : ℕ) : Layered → ℕ → Result (Unit {0}) BusRefusal → Type 0 where
  by_bottom : (m : Meaning) (r : Rules m) → Judges a (bottom m r) 0 (m.takes a)
  by_guard : (first last : ℕ) (p : Layered) → guarded first last a ≡ true → Judges a (guard first last p) 0 (Err (here Guarded))
  by_shadow : (page : ℕ) (kept : ℕ → Option ℕ) (p : Layered) → in_page page a ≡ false → Judges a (shadow page kept p) 0 (Err (here OutsideShadow))
  by_read : (page : ℕ) (kept : ℕ → Option ℕ) {p : Layered} {n : ℕ} {x : Result ℕ BusRefusal} → in_page page a ≡ true → Answers a p n x → Judges a (shadow page kept p) (suc n) (if_readable x)
  under_guard : (first last : ℕ) {p : Layered} {n : ℕ} {x : Result (Unit {0}) BusRefusal} → guarded first last a ≡ false → Judges a p n x → Judges a (guard first last p) (suc n) x
  under_split_low : (at : ℕ) (q : Layered) {p : Layered} {n : ℕ} {x : Result (Unit {0}) BusRefusal} → nat_lt a at ≡ true → Judges a p n x → Judges a (split at p q) (suc n) x
  under_split_high : (at : ℕ) (p : Layered) {q : Layered} {n : ℕ} {x : Result (Unit {0}) BusRefusal} → nat_lt a at ≡ false → Judges a q n x → Judges a (split at p q) (suc n) x

-- An answer from n layers down: a refusal keeps its cause, and its depth grows by n, up to 255.
abbrev pub from_below : {X : Type 0} → ℕ → Result X BusRefusal → Result X BusRefusal
from_below n (Ok x) = Ok x
from_below n (Err r) = Err (record { cause = r.cause; depth = min (r.depth + n) 255 })

-- What holds of every pile, however high.
pub record PileLaws (p : Layered) : Type 0 where
  -- It keeps the bus rules.
  pub rules : Rules (pile_meaning p)
  -- A store leaves a pile of the same layers, which means what a store leaves of a bus.
  pub stores : (a b : ℕ) → pile_meaning (put p a b) ≡ after (pile_meaning p) a b
  -- A read goes down to one place, and what is answered there comes up through all the layers passed.
  pub reached : (a : ℕ) → (n : ℕ) × (x : Result ℕ BusRefusal) × Answers a p n x
  pub reads : (a n : ℕ) (x : Result ℕ BusRefusal) → Answers a p n x → (pile_meaning p).reads a ≡ from_below n x
  -- A store is judged at one place, and the verdict comes up likewise.
  pub judged : (a : ℕ) → (n : ℕ) × (x : Result (Unit {0}) BusRefusal) × Judges a p n x
  pub takes : (a n : ℕ) (x : Result (Unit {0}) BusRefusal) → Judges a p n x → (pile_meaning p).takes a ≡ from_below n x

-- Every pile is a bus.
abbrev pub PilesAreBuses : Type 0
PilesAreBuses = (p : Layered) → PileLaws p
