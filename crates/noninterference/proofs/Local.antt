-- What asks for no stained address comes to the same on two buses that agree off the stains and take the same stores.
use Rattle.std.proofs.Common.{◌≡◌, ℕ, ◌<◌, Bool, true, false, cond, List, [], ◌∷◌, Some, None, Ok, Err, Result, refl, ap, ◌∙◌}
use Rattle.bus.specs.declared.refusal.BusRefusal.{BusRefusal}
use Rattle.bus.specs.Meaning.{Meaning}
use Rattle.reading.specs.declared.fault.Fault.{Fault}
use Rattle.reading.specs.Sheets.{stained, noted}
use Rattle.reading.specs.Trees.{wrap, Tree, done, stop, ask, inquire, heard, onward, came, asked}
use Rattle.stains.proofs.Storing.{wraps, OffStains, Spotless}

abbrev pub TakeAlike : Meaning → Meaning → Type 0
TakeAlike m n = (a : ℕ) → a < 65536 → m.takes a ≡ n.takes a

-- once noted, an address stays
noted_stays : (sheet : List ℕ) (t : ℕ) (l : List ℕ) → noted sheet (Some t) l ≡ Some t
noted_stays sheet t [] = refl
noted_stays sheet t (a ∷ l) = noted_stays sheet t l

none_onward : {X : Type 0} (sheet : List ℕ) (x : Result X BusRefusal) (k : X → List ℕ) → ((b : X) → noted sheet None (k b) ≡ None) → noted sheet None (onward x k) ≡ None
none_onward sheet (Ok b) k h = h b
none_onward sheet (Err u) k h = refl

module _ {A : Type 0} where
  heard_same : {X : Type 0} (sheet : List ℕ) (a : ℕ) (x : Result X BusRefusal) (k : X → List ℕ) (f g : X → Result A Fault) → ((b : X) → noted sheet None (k b) ≡ None → f b ≡ g b) → noted sheet None (onward x k) ≡ None → heard a x f ≡ heard a x g
  heard_same sheet a (Ok b) k f g h e = h b e
  heard_same sheet a (Err u) k f g h e = refl

  ask_same : (sheet : List ℕ) (a c : ℕ) (x y : Result ℕ BusRefusal) (k : ℕ → List ℕ) (f g : ℕ → Result A Fault) → ((b : ℕ) → noted sheet None (k b) ≡ None → f b ≡ g b) → (s : Bool) → (s ≡ false → x ≡ y) → noted sheet (cond s (Some a) None) (onward x k) ≡ None → heard c x f ≡ heard c y g
  ask_same sheet a c x y k f g h true at e = let q = noted_stays sheet a (onward x k) in cc
  ask_same sheet a c x y k f g h false at e = heard_same sheet c x k f g h e ∙ ap (λ z. heard c z g) (at refl)

  pub local : (sheet : List ℕ) (m n : Meaning) → OffStains sheet m n → TakeAlike m n → (t : Tree A) → noted sheet None (asked m t) ≡ None → came m t ≡ came n t
  local sheet m n r w (done x) e = refl
  local sheet m n r w (stop f) e = refl
  local sheet m n r w (ask a k) e = ask_same sheet (wrap a) a (m.reads (wrap a)) (n.reads (wrap a)) (λ b. asked m (k b)) (λ b. came m (k b)) (λ b. came n (k b)) (λ b. local sheet m n r w (k b)) (stained sheet (wrap a)) (r (wrap a) (wraps a)) e
  local sheet m n r w (inquire a t) e = heard_same sheet a (m.takes (wrap a)) (λ _. asked m t) (λ _. came m t) (λ _. came n t) (λ _. local sheet m n r w t) e ∙ ap (λ z. heard a z (λ _. came n t)) (w (wrap a) (wraps a))

  -- a sheet with no stain tells none
  pub tells_none : (sheet : List ℕ) → Spotless sheet → (m : Meaning) (t : Tree A) → noted sheet None (asked m t) ≡ None
  tells_none sheet h m (done x) = refl
  tells_none sheet h m (stop f) = refl
  tells_none sheet h m (ask a k) = ap (λ s. noted sheet (cond s (Some (wrap a)) None) (onward (m.reads (wrap a)) (λ b. asked m (k b)))) (h (wrap a) (wraps a)) ∙ none_onward sheet (m.reads (wrap a)) (λ b. asked m (k b)) (λ b. tells_none sheet h m (k b))
  tells_none sheet h m (inquire a t) = none_onward sheet (m.takes (wrap a)) (λ _. asked m t) (λ _. tells_none sheet h m t)
