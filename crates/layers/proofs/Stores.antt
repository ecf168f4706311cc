-- What a store leaves of a layer, by what it leaves of the bus below.
use Rattle.std.proofs.Common.{◌≡◌, ℕ, Bool, true, false, cond, ltb, Ok, Option, Result, refl, arith}
use Rattle.std.proofs.lemmas.Bool.Decides.{nat_tests}
use Rattle.bus.specs.declared.refusal.BusRefusal.{BusRefusal}
use Rattle.bus.specs.Meaning.{Meaning, raised, after}
use Rattle.bus.proofs.Equal.{same_meaning}
use Rattle.layers.specs.Layers.{kept_after, split_meaning, shadow_meaning}

pub low_after : (at : ℕ) (m m' n : Meaning) (a b : ℕ) → ltb a at ≡ true → m' ≡ after m a b → split_meaning at m' n ≡ after (split_meaning at m n) a b
low_after at m m' n a b h e = rw e (same_meaning _ _ (λ y. grind (arith, nat_tests)) (λ y. grind (arith, nat_tests)))

pub high_after : (at : ℕ) (m n n' : Meaning) (a b : ℕ) → ltb a at ≡ false → n' ≡ after n a b → split_meaning at m n' ≡ after (split_meaning at m n) a b
high_after at m n n' a b h e = rw e (same_meaning _ _ (λ y. grind (arith, nat_tests)) (λ y. grind (arith, nat_tests)))

pub shadow_after : (page : ℕ) (kept : ℕ → Option ℕ) (m : Meaning) (a b : ℕ) → shadow_meaning page (kept_after page kept (m.reads a) a b) m ≡ after (shadow_meaning page kept m) a b
shadow_after page kept m a b = same_meaning _ _ (λ y. grind (arith, nat_tests)) (λ y. grind (arith, nat_tests))

-- One byte stored below a layer that passes it on, seen from above. For who builds on this crate.
pub raised_stored : (w : Bool) (b : ℕ) (r : Result ℕ BusRefusal) → raised (cond w (Ok b) r) ≡ cond w (Ok b) (raised r)
raised_stored true b r = refl
raised_stored false b r = refl

pub side_stored : (v w : Bool) (b : ℕ) (r s : Result ℕ BusRefusal) → (w ≡ true → v ≡ true) → raised (cond v (cond w (Ok b) r) s) ≡ cond w (Ok b) (raised (cond v r s))
side_stored true w b r s h = raised_stored w b r
side_stored false false b r s h = refl
side_stored false true b r s h = let z : ◌≡◌ {A = ℕ} 0 1 = cc (h refl) in absurd (omega arith)
