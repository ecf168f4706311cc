-- Each layer keeps the bus rules if what is below keeps them. These proofs stand here since a bus's ghost member may cite only specs/.
use Rattle.std.specs.Prelude.{ℕ, Ok, Err, Option}
use Rattle.std.proofs.Common.{arith}
use Rattle.bus.specs.Meaning.{Meaning, stored, if_ok, after}
use Rattle.bus.specs.Rules.{Rules}
use Rattle.layers.specs.Layers.{guard_meaning, split_meaning, shadow_meaning}

pub guard_rules : (first last : ℕ) (m : Meaning) → Rules m → Rules (guard_meaning first last m)
guard_rules first last m r = record {
  readable = λ a h. grind (arith, r.readable a);
  read_depth = λ a. grind arith;
  store_depth = λ a. grind arith;
}

pub split_rules : (at : ℕ) (low high : Meaning) → Rules low → Rules high → Rules (split_meaning at low high)
split_rules at low high r s = record {
  readable = λ a h. grind (arith, r.readable a, s.readable a);
  read_depth = λ a. grind arith;
  store_depth = λ a. grind arith;
}

pub shadow_rules : (page : ℕ) (kept : ℕ → Option ℕ) (m : Meaning) → Rules m → Rules (shadow_meaning page kept m)
shadow_rules page kept m r = record {
  readable = λ a h. grind arith;
  read_depth = λ a. grind arith;
  store_depth = λ a. grind arith;
}

-- A bus that keeps the rules keeps them after a store.
stored_rules : (m : Meaning) (a b : ℕ) → Rules m → Rules (stored m a b)
stored_rules m a b r = record {
  readable = λ x h. grind (arith, r.readable x);
  read_depth = λ x. grind (arith, r.read_depth x);
  store_depth = r.store_depth;
}

pub after_rules : (m : Meaning) (a b : ℕ) → Rules m → Rules (after m a b)
after_rules m a b r = elim (m.takes a) as (λ t. Rules (if_ok t (stored m a b) m)) [ Ok x ↦ stored_rules m a b r | Err e ↦ r ]
