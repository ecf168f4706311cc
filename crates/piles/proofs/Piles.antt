-- Every pile is a bus, however high. By induction on its layers.
use Rattle.std.proofs.Common.{◌≡◌, ℕ, suc, ltb, Some, None, Ok, Err, Option, Result, inl, inr, refl, arith}
use Rattle.std.proofs.lemmas.Bool.{cases_Bool}
use Rattle.std.proofs.lemmas.Bool.Decides.{nat_tests}
use Rattle.bus.specs.declared.refusal.BusRefusal.{BusRefusal}
use Rattle.bus.specs.declared.refusal.Cause.TheVariants.{Guarded, OutsideShadow}
use Rattle.bus.specs.Meaning.{here, after}
use Rattle.bus.proofs.Equal.{same_meaning}
use Rattle.layers.specs.Layers.{guarded, in_page, kept_at, if_readable}
use Rattle.layers.proofs.Stores.{shadow_after}
use Rattle.piles.specs.Piles.{Layered, bottom, guard, split, shadow, pile_meaning, pile_rules, put, Answers, Judges, from_below, PileLaws}

reads_law : (a : ℕ) (p : Layered) (n : ℕ) (x : Result ℕ BusRefusal) → Answers a p n x → (pile_meaning p).reads a ≡ from_below n x
reads_law a p n x (Answers.by_bottom m r) = let d = r.read_depth a in grind arith
reads_law a p n x (Answers.by_shadow page b kept q k) = rw k
reads_law a p n x (Answers.under_guard first last {p = q} {n = m} h) = let e = reads_law a q m x h in grind arith
reads_law a p n x (Answers.under_split_low at q {p = r} {n = m} w h) = let e = reads_law a r m x h in grind arith
reads_law a p n x (Answers.under_split_high at r {q = q} {n = m} w h) = let e = reads_law a q m x h in grind arith
reads_law a p n x (Answers.under_shadow page kept {p = q} {n = m} k h) = let e = reads_law a q m x h in rw k (grind arith)

takes_law : (a : ℕ) (p : Layered) (n : ℕ) (x : Result (Unit {0}) BusRefusal) → Judges a p n x → (pile_meaning p).takes a ≡ from_below n x
takes_law a p n x (Judges.by_bottom m r) = let d = r.store_depth a in grind arith
takes_law a p n x (Judges.by_guard first last q g) = rw g
takes_law a p n x (Judges.by_shadow page kept q i) = rw i
takes_law a p n x (Judges.by_read page kept {p = q} {n = m} {x = y} i h) = let e = reads_law a q m y h in grind arith
takes_law a p n x (Judges.under_guard first last {p = q} {n = m} g h) = let e = takes_law a q m x h in grind arith
takes_law a p n x (Judges.under_split_low at q {p = r} {n = m} w h) = let e = takes_law a r m x h in grind arith
takes_law a p n x (Judges.under_split_high at r {q = q} {n = m} w h) = let e = takes_law a q m x h in grind arith

stores_law : (p : Layered) (a b : ℕ) → pile_meaning (put p a b) ≡ after (pile_meaning p) a b
stores_law (bottom m r) a b = refl
stores_law (guard first last p) a b =
    let h = stores_law p a b in
    same_meaning _ _ (λ y. grind (arith, nat_tests)) (λ y. grind (arith, nat_tests))
stores_law (split at p q) a b =
    let h = stores_law p a b in
    let k = stores_law q a b in
    same_meaning _ _ (λ y. grind (arith, nat_tests)) (λ y. grind (arith, nat_tests))
stores_law (shadow page kept p) a b = shadow_after page kept (pile_meaning p) a b

-- what is reached, by the layer on top
abbrev Reached : ℕ → Layered → Type 0
Reached a p = (n : ℕ) × (x : Result ℕ BusRefusal) × Answers a p n x

shadow_reached : (o : Option ℕ) (a page : ℕ) (kept : ℕ → Option ℕ) (p : Layered) → kept_at page kept a ≡ o → Reached a p → Reached a (shadow page kept p)
shadow_reached (Some b) a page kept p e h = (0, Ok b, Answers.by_shadow page b kept p e)
shadow_reached None a page kept p e (n, x, h) = (suc n, x, Answers.under_shadow page kept e h)

reached : (a : ℕ) (p : Layered) → Reached a p
reached a (bottom m r) = (0, m.reads a, Answers.by_bottom m r)
reached a (guard first last p) = let h = reached a p in (suc h.0, h.1, Answers.under_guard first last h.2)
reached a (split at p q) =
    let h = reached a p in
    let k = reached a q in
    elim (cases_Bool (ltb a at)) [ inl e ↦ (suc h.0, h.1, Answers.under_split_low at q e h.2) | inr e ↦ (suc k.0, k.1, Answers.under_split_high at p e k.2) ]
reached a (shadow page kept p) = shadow_reached (kept_at page kept a) a page kept p refl (reached a p)

judged : (a : ℕ) (p : Layered) → (n : ℕ) × (x : Result (Unit {0}) BusRefusal) × Judges a p n x
judged a (bottom m r) = (0, m.takes a, Judges.by_bottom m r)
judged a (guard first last p) =
    let h = judged a p in
    elim (cases_Bool (guarded first last a)) [ inl e ↦ (0, Err (here Guarded), Judges.by_guard first last p e) | inr e ↦ (suc h.0, h.1, Judges.under_guard first last e h.2) ]
judged a (split at p q) =
    let h = judged a p in
    let k = judged a q in
    elim (cases_Bool (ltb a at)) [ inl e ↦ (suc h.0, h.1, Judges.under_split_low at q e h.2) | inr e ↦ (suc k.0, k.1, Judges.under_split_high at p e k.2) ]
judged a (shadow page kept p) =
    let h = reached a p in
    elim (cases_Bool (in_page page a)) [ inl e ↦ (suc h.0, if_readable h.1, Judges.by_read page kept e h.2) | inr e ↦ (0, Err (here OutsideShadow), Judges.by_shadow page kept p e) ]

pub pile_laws : (p : Layered) → PileLaws p
pile_laws p = record {
  rules = pile_rules p;
  stores = stores_law p;
  reached = λ a. reached a p;
  reads = λ a n x h. reads_law a p n x h;
  judged = λ a. judged a p;
  takes = λ a n x h. takes_law a p n x h;
}
