-- Two states that differ in no part are equal.
use Rattle.std.proofs.Common.{◌≡◌, ℕ, ◌+◌, Bool, true, cond, eqb, List, [], ◌∷◌, Some, None, Option, refl, arith}
use Rattle.std.specs.Cmp.{booleans_Decides}
use Rattle.std.specs.Option.{option_or}
use Rattle.std.proofs.lemmas.Bool.{and_parts, eqb-true}
use Rattle.std.proofs.lemmas.Bool.Decides.{nat_tests}
use Rattle.registers.specs.declared.mar.Mar.{Mar}
use Rattle.registers.specs.declared.mar.Mar.TheVariants.{Arp, Drp, Status as StatusMar, E}
use Rattle.registers.specs.declared.status.Status.{Status}
use Rattle.registers.specs.Differences.{same_status, register_mar, other_mar, mar_of}
use Rattle.registers.specs.State.{State}

same_list : (k : ℕ) (xs ys : List ℕ) → register_mar k xs ys ≡ None → xs ≡ ys
same_list k [] [] h = refl
same_list k [] (y ∷ ys) h = cc
same_list k (x ∷ xs) [] h = cc
same_list k (x ∷ xs) (y ∷ ys) h = grind (arith, nat_tests, same_list (k + 1) xs ys)

status_same : (s t : Status) → same_status s t ≡ true → s ≡ t
status_same s t h = grind (arith, and_parts, booleans_Decides)

no_other : (a d f e : Bool) → cond a (cond d (cond f (cond e None (Some E)) (Some StatusMar)) (Some Drp)) (Some Arp) ≡ None → (a ≡ true) × (d ≡ true) × (f ≡ true) × (e ≡ true)
no_other a d f e h = grind arith

same_others : (s t : State) → other_mar s t ≡ None → s.registers ≡ t.registers → s ≡ t
same_others s t h e =
    let p = no_other (eqb s.arp t.arp) (eqb s.drp t.drp) (same_status s.status t.status) (eqb s.e t.e) h in
    grind (arith, eqb-true s.arp t.arp p.0, eqb-true s.drp t.drp p.1, status_same s.status t.status p.2, eqb-true s.e t.e p.3)

neither : (o p : Option Mar) → option_or o p ≡ None → (o ≡ None) × (p ≡ None)
neither None p h = (refl, h)
neither (Some m) p h = cc

pub none_differs : (s t : State) → mar_of s t ≡ None → s ≡ t
none_differs s t h =
    let p = neither (register_mar 0 s.registers t.registers) (other_mar s t) h in
    same_others s t p.1 (same_list 0 s.registers t.registers p.0)
