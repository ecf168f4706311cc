-- What a write to one of a row's bytes does to its meaning. For who builds on this crate.
use Rattle.std.proofs.Common.{◌≡◌, ℕ, ◌-◌, ◌<◌, ◌≤◌, true, List, map, length, set, refl, ap, ◌∙◌, arith}
use Rattle.std.proofs.lemmas.List.{get_or-set_same, get_or-set_other, length-map, map-set}
use Rattle.std.proofs.lemmas.Bool.Decides.{nat_tests}
use Rattle.bus.specs.declared.trunk.Trunk.{Trunk}
use Rattle.bus.specs.Meaning.{stored, after}
use Rattle.bus.specs.Kinds.{within, bytes_meaning, board_meaning, trunk_byte}
use Rattle.bus.proofs.Equal.{same_meaning}

pub within_from : (base n a : ℕ) → base ≤ a → a - base < n → a < 65536 → within base n a ≡ true
within_from base n a h k l = grind (arith, nat_tests)

module _ (base n a b : ℕ) (bs : List ℕ) (h : base ≤ a) (k : a - base < n) (l : a < 65536) (i : a - base < length bs) where
  reads_set : (x : ℕ) → (bytes_meaning base n (set bs (a - base) b)).reads x ≡ (stored (bytes_meaning base n bs) a b).reads x
  reads_set x = grind (arith, nat_tests, get_or-set_same bs (a - base) b 0 i, get_or-set_other bs (a - base) (x - base) b 0)

  pub bytes_after : bytes_meaning base n (set bs (a - base) b) ≡ after (bytes_meaning base n bs) a b
  bytes_after = rw (within_from base n a h k l) (same_meaning _ _ reads_set (λ x. refl))

pub board_after : (base a b : ℕ) (ts : List Trunk) (t : Trunk) → trunk_byte t ≡ b → base ≤ a → a - base < 16 → a < 65536 → length ts ≡ 16 → board_meaning base (set ts (a - base) t) ≡ after (board_meaning base ts) a b
board_after base a b ts t e h k l n =
    let j : a - base < length (map trunk_byte ts) = rw length-map (omega arith) in
    ap (bytes_meaning base 16) (map-set trunk_byte ts (a - base) t ∙ ap (set (map trunk_byte ts) (a - base)) e) ∙ bytes_after base 16 a b (map trunk_byte ts) h k l j
