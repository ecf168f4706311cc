-- The program counter put back.
use Rattle.std.proofs.Common.{◌≡◌, ℕ, ◌/◌, ◌%◌, ◌≢◌, List, [], ◌∷◌, get_or, set, Ok, Err, Result, refl, ap, ◌∙◌, arith}
use Rattle.std.proofs.lemmas.List.{set-set, set_comm, set-get_or}
use Rattle.registers.specs.State.{State}
use Rattle.registers.specs.Rows.{with_row, with_pair}
use Rattle.execute.specs.Models.{place_of, if_ok, but_for_the_place}

-- what was written at two places is written over by what stood there
two_back : (l : List ℕ) (a b : ℕ) → set (set (set (set l 4 a) 5 b) 4 (get_or l 4 0)) 5 (get_or l 5 0) ≡ l
two_back l a b =
    let x = get_or l 4 0 in
    let y = get_or l 5 0 in
    let apart : ◌≢◌ {A = ℕ} 5 4 = λ e. omega arith in
    ap (λ k. set k 5 y) (set_comm (set l 4 a) 5 4 b x apart ∙ ap (λ k. set k 5 b) (set-set l 4 a x ∙ set-get_or l 4 0)) ∙ set-set l 5 b y ∙ set-get_or l 5 0

pub put_back : (s : State) (to : ℕ) → with_row (with_pair s 4 to) 4 (get_or s.registers 4 0 ∷ get_or s.registers 5 0 ∷ []) ≡ s
put_back s to = ap (λ rs. record s { registers = rs }) (two_back s.registers (to % 256) (to / 256))

pub put_again : (s : State) → with_row s 4 (place_of s) ≡ s
put_again s = ap (λ rs. record s { registers = rs }) (ap (λ l. set l 5 (get_or s.registers 5 0)) (set-get_or s.registers 4 0) ∙ set-get_or s.registers 5 0)

pub put_back_if_refused : {A E : Type 0} (r : Result A E) (s t u : State) (to : ℕ) → u ≡ if_ok r u t → t ≡ with_pair s 4 to → but_for_the_place r u s ≡ s
put_back_if_refused (Ok x) s t u to p q = refl
put_back_if_refused (Err e) s t u to p q = ap (λ x. with_row x 4 (place_of s)) (p ∙ q) ∙ put_back s to
