-- A load behind the split and the guard.
use Rattle.std.proofs.Common.{◌≡◌, ℕ, ◌+◌, Bool, true, false, cond, leb, List, length, arith}
use Rattle.std.proofs.lemmas.Bool.Decides.{nat_tests}
use Rattle.bus.specs.Meaning.{Meaning, loaded}
use Rattle.layers.specs.Layers.{split_meaning, guard_meaning}

-- where all the bytes lie below the split, or none is written
pub loaded_behind : (at first last : ℕ) (high m m' : Meaning) (a : ℕ) (s : List ℕ) (r : Bool) → r ≡ leb (a + length s) at → m' ≡ cond r (loaded m a s) m → split_meaning at (guard_meaning first last m') high ≡ cond r (loaded (split_meaning at (guard_meaning first last m) high) a s) (split_meaning at (guard_meaning first last m) high)
loaded_behind at first last high m m' a s false e h = rw h
loaded_behind at first last high m m' a s true e h = rw h (grind (arith, nat_tests))
