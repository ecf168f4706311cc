-- Bytes loaded below a layer, seen from above. For who builds on this crate.
use Rattle.std.proofs.Common.{◌≡◌, ℕ, ◌+◌, ◌≤◌, List, length, refl, arith}
use Rattle.std.proofs.lemmas.Bool.Decides.{nat_tests}
use Rattle.bus.specs.Meaning.{Meaning, loaded}
use Rattle.bus.proofs.Equal.{same_meaning}
use Rattle.layers.specs.Layers.{guard_meaning, split_meaning}

pub guard_loaded : (first last : ℕ) (m : Meaning) (a : ℕ) (s : List ℕ) → guard_meaning first last (loaded m a s) ≡ loaded (guard_meaning first last m) a s
guard_loaded first last m a s = same_meaning _ _ (λ x. grind (arith, nat_tests)) (λ x. refl)

-- where all the bytes lie under the split's bound
pub split_loaded : (at : ℕ) (m n : Meaning) (a : ℕ) (s : List ℕ) → a + length s ≤ at → split_meaning at (loaded m a s) n ≡ loaded (split_meaning at m n) a s
split_loaded at m n a s h = same_meaning _ _ (λ x. grind (arith, nat_tests)) (λ x. refl)
