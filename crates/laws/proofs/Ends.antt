-- What is true of every value with which a reading can end.
use Rattle.std.proofs.Common.{◌≡◌, ℕ, Ok, Err, Result, refl, subst}
use Rattle.bus.specs.declared.refusal.BusRefusal.{BusRefusal}
use Rattle.bus.specs.Meaning.{Meaning}
use Rattle.reading.specs.declared.fault.Fault.{Fault}
use Rattle.reading.specs.Trees.{wrap, Tree, done, stop, ask, inquire, heard, came, bind, given}
use Rattle.reading.proofs.Laws.{no_value}

-- Whatever bytes are read and whatever stores are taken.
abbrev pub Ends : {A : Type 0} → (A → Type 0) → Tree A → Type 0
Ends P (done x) = P x
Ends P (stop f) = Unit {0}
Ends P (ask a k) = (b : ℕ) → Ends P (k b)
Ends P (inquire a t) = Ends P t

heard_ends : {A X : Type 0} (P : A → Type 0) (a : ℕ) (r : Result X BusRefusal) (k : X → Result A Fault) (x : A) → ((b : X) → k b ≡ Ok x → P x) → heard a r k ≡ Ok x → P x
heard_ends P a (Ok b) k x h e = h b e
heard_ends P a (Err u) k x h e = no_value e

pub ended : {A : Type 0} (P : A → Type 0) (m : Meaning) (t : Tree A) (x : A) → Ends P t → came m t ≡ Ok x → P x
ended P m (done y) x h e = let q : y ≡ x = cc in subst P q h
ended P m (stop f) x h e = no_value e
ended P m (ask a k) x h e = heard_ends P a (m.reads (wrap a)) (λ b. came m (k b)) x (λ b. ended P m (k b) x (h b)) e
ended P m (inquire a t) x h e = heard_ends P a (m.takes (wrap a)) (λ _. came m t) x (λ _. ended P m t x h) e

-- One after another.
pub bind_ends : {A C : Type 0} (Q : A → Type 0) (P : C → Type 0) (k : A → Tree C) → ((x : A) → Q x → Ends P (k x)) → (t : Tree A) → Ends Q t → Ends P (bind t k)
bind_ends Q P k h (done x) q = h x q
bind_ends Q P k h (stop f) q = tt
bind_ends Q P k h (ask a s) q = λ b. bind_ends Q P k h (s b) (q b)
bind_ends Q P k h (inquire a t) q = bind_ends Q P k h t q

any : {A : Type 0} (t : Tree A) → Ends (λ _. Unit {0}) t
any (done x) = tt
any (stop f) = tt
any (ask a k) = λ b. any (k b)
any (inquire a t) = any t

pub then_ends : {A C : Type 0} (P : C → Type 0) (t : Tree A) (k : A → Tree C) → ((x : A) → Ends P (k x)) → Ends P (bind t k)
then_ends P t k h = bind_ends (λ _. Unit {0}) P k (λ x _. h x) t (any t)

pub given_ends : {A : Type 0} (P : A → Type 0) (r : Result A Fault) → ((x : A) → r ≡ Ok x → P x) → Ends P (given r)
given_ends P (Ok x) h = h x refl
given_ends P (Err f) h = tt

pub map_ends : {A : Type 0} (Q P : A → Type 0) → ((x : A) → Q x → P x) → (t : Tree A) → Ends Q t → Ends P t
map_ends Q P h (done x) q = h x q
map_ends Q P h (stop f) q = tt
map_ends Q P h (ask a k) q = λ b. map_ends Q P h (k b) (q b)
map_ends Q P h (inquire a t) q = map_ends Q P h t q
