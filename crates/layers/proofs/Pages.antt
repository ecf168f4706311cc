-- A page that keeps nothing.
use Rattle.std.proofs.Common.{◌≡◌, ℕ, zero, suc, get_or, replicate, None, Option, refl}

pub none_kept : (n i : ℕ) → get_or (replicate {A = Option ℕ} n None) i None ≡ None
none_kept zero i = refl
none_kept (suc n) zero = refl
none_kept (suc n) (suc i) = none_kept n i
