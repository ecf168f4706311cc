-- What a write of many bytes does to the meaning of RAM.
use Rattle.std.proofs.Common.{◌≡◌, ℕ, ◌+◌, ◌-◌, ◌≤◌, List, length, arith, Bool, true, false, cond, ap, ◌∙◌}
use Rattle.std.proofs.lemmas.Bool.Decides.{nat_tests}
use Rattle.byte_rows.specs.Rows.{over}
use Rattle.byte_rows.proofs.Writing.{length_over, get_or_over}
use Rattle.bus.specs.Meaning.{loaded}
use Rattle.bus.specs.Kinds.{ram_meaning, holds}

pub ram_loaded : (base a : ℕ) (bs s : List ℕ) → base ≤ a → a + length s ≤ 65536 → (a - base) + length s ≤ length bs → ram_meaning base (over bs (a - base) s) ≡ loaded (ram_meaning base bs) a s
ram_loaded base a bs s h k l = grind (arith, nat_tests, length_over, get_or_over)

-- the meaning after a load that was taken or not
pub ram_load : (base a : ℕ) (bs bs' s : List ℕ) (r : Bool) → r ≡ holds base (length bs) a (length s) → bs' ≡ cond r (over bs (a - base) s) bs → ram_meaning base bs' ≡ cond r (loaded (ram_meaning base bs) a s) (ram_meaning base bs)
ram_load base a bs bs' s false f b = ap (ram_meaning base) b
ram_load base a bs bs' s true f b = ap (ram_meaning base) b ∙ ram_loaded base a bs s (grind (arith, nat_tests)) (grind (arith, nat_tests)) (grind (arith, nat_tests))
