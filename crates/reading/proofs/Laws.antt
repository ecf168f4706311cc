-- One reading after another.
use Rattle.std.proofs.Common.{◌≡◌, ℕ, zero, suc, ◌+◌, ◌-◌, ◌<◌, List, [], Ok, Err, Option, Result, sym, refl, ap, ◌∙◌, arith}
use Rattle.bus.specs.declared.refusal.BusRefusal.{BusRefusal}
use Rattle.bus.specs.Meaning.{Meaning}
use Rattle.reading.specs.declared.fault.Fault.{Fault}
use Rattle.reading.specs.Sheets.{note, noted}
use Rattle.reading.specs.Trees.{wrap, Tree, done, stop, ask, inquire, heard, onward, came, asked, bind, given}
use Rattle.reading.specs.Readings.{ReadsBy, next, stores_tree}
use Rattle.reading.proofs.Filling.{place, place_more}
use Rattle.reading.specs.declared.reads.BusReader.{BusReader}

module _ {A C : Type 0} (m : Meaning) (k : A → Tree C) where
  heard_ok : {X : Type 0} (a : ℕ) (x : A) (r : Result X BusRefusal) (f : X → Result A Fault) (g : X → Result C Fault) (z : Result C Fault) → ((b : X) → f b ≡ Ok x → g b ≡ z) → heard a r f ≡ Ok x → heard a r g ≡ z
  heard_ok a x (Ok b) f g z h e = h b e
  heard_ok a x (Err u) f g z h e = cc

  came_ok : (t : Tree A) (x : A) → came m t ≡ Ok x → came m (bind t k) ≡ came m (k x)
  came_ok (done y) x e = let q : y ≡ x = cc in ap (λ w. came m (k w)) q
  came_ok (stop f) x e = cc
  came_ok (ask a s) x e = heard_ok a x (m.reads (wrap a)) (λ b. came m (s b)) (λ b. came m (bind (s b) k)) (came m (k x)) (λ b. came_ok (s b) x) e
  came_ok (inquire a t) x e = heard_ok a x (m.takes (wrap a)) (λ _. came m t) (λ _. came m (bind t k)) (came m (k x)) (λ _. came_ok t x) e

  heard_err : {X : Type 0} (a : ℕ) (y : Fault) (r : Result X BusRefusal) (f : X → Result A Fault) (g : X → Result C Fault) → ((b : X) → f b ≡ Err y → g b ≡ Err y) → heard a r f ≡ Err y → heard a r g ≡ Err y
  heard_err a y (Ok b) f g h e = h b e
  heard_err a y (Err u) f g h e = cc

  came_err : (t : Tree A) (y : Fault) → came m t ≡ Err y → came m (bind t k) ≡ Err y
  came_err (done x) y e = cc
  came_err (stop f) y e = cc
  came_err (ask a s) y e = heard_err a y (m.reads (wrap a)) (λ b. came m (s b)) (λ b. came m (bind (s b) k)) (λ b. came_err (s b) y) e
  came_err (inquire a t) y e = heard_err a y (m.takes (wrap a)) (λ _. came m t) (λ _. came m (bind t k)) (λ _. came_err t y) e

  module _ (sheet : List ℕ) where
    onward_ok : {X : Type 0} (a : ℕ) (x : A) (r : Result X BusRefusal) (f : X → Result A Fault) (l n : X → List ℕ) (rest : List ℕ) (u : Option ℕ) → ((b : X) → f b ≡ Ok x → noted sheet u (l b) ≡ noted sheet (noted sheet u (n b)) rest) → heard a r f ≡ Ok x → noted sheet u (onward r l) ≡ noted sheet (noted sheet u (onward r n)) rest
    onward_ok a x (Ok b) f l n rest u h e = h b e
    onward_ok a x (Err v) f l n rest u h e = cc

    told_ok : (t : Tree A) (x : A) (u : Option ℕ) → came m t ≡ Ok x → noted sheet u (asked m (bind t k)) ≡ noted sheet (noted sheet u (asked m t)) (asked m (k x))
    told_ok (done y) x u e = let q : y ≡ x = cc in ap (λ w. noted sheet u (asked m (k w))) q
    told_ok (stop f) x u e = cc
    told_ok (ask a s) x u e = onward_ok a x (m.reads (wrap a)) (λ b. came m (s b)) (λ b. asked m (bind (s b) k)) (λ b. asked m (s b)) (asked m (k x)) (note sheet u (wrap a)) (λ b. told_ok (s b) x (note sheet u (wrap a))) e
    told_ok (inquire a t) x u e = onward_ok a x (m.takes (wrap a)) (λ _. came m t) (λ _. asked m (bind t k)) (λ _. asked m t) (asked m (k x)) u (λ _. told_ok t x u) e

    onward_err : {X : Type 0} (a : ℕ) (y : Fault) (r : Result X BusRefusal) (f : X → Result A Fault) (l n : X → List ℕ) (u : Option ℕ) → ((b : X) → f b ≡ Err y → noted sheet u (l b) ≡ noted sheet u (n b)) → heard a r f ≡ Err y → noted sheet u (onward r l) ≡ noted sheet u (onward r n)
    onward_err a y (Ok b) f l n u h e = h b e
    onward_err a y (Err v) f l n u h e = refl

    told_err : (t : Tree A) (y : Fault) (u : Option ℕ) → came m t ≡ Err y → noted sheet u (asked m (bind t k)) ≡ noted sheet u (asked m t)
    told_err (done x) y u e = cc
    told_err (stop f) y u e = refl
    told_err (ask a s) y u e = onward_err a y (m.reads (wrap a)) (λ b. came m (s b)) (λ b. asked m (bind (s b) k)) (λ b. asked m (s b)) (note sheet u (wrap a)) (λ b. told_err (s b) y (note sheet u (wrap a))) e
    told_err (inquire a t) y u e = onward_err a y (m.takes (wrap a)) (λ _. came m t) (λ _. asked m (bind t k)) (λ _. asked m t) u (λ _. told_err t y u) e

-- A reader that got x from one tree, and went on from x.
pub then : {B A C : Type 0} (meaning : B → Meaning) (t : Tree A) (k : A → Tree C) (x : A) (r : Result A Fault) (z : Result C Fault) (before between after : BusReader B) → r ≡ Ok x → ReadsBy meaning before t r between → ReadsBy meaning between (k x) z after → ReadsBy meaning before (bind t k) z after
then meaning t k x r z before between after e p q =
    let m = meaning before.bus.now in
    let sheet = before.sheet.now in
    let ok : came m t ≡ Ok x = sym p.read.result ∙ e in
    let rest = rw (p.bus, p.sheet) at q.read in
    record {
      read = record {
        result = rest.result ∙ sym (came_ok m k t x ok);
        told = rest.told ∙ ap (λ n. noted sheet n (asked m (k x))) p.read.told ∙ sym (told_ok m k sheet t x before.told ok);
      };
      bus = q.bus ∙ p.bus;
      sheet = q.sheet ∙ p.sheet;
    }

-- A reader that stopped.
pub stops : {B A C : Type 0} (meaning : B → Meaning) (t : Tree A) (k : A → Tree C) (f : Fault) (r : Result A Fault) (z : Result C Fault) (before after : BusReader B) → r ≡ Err f → z ≡ Err f → ReadsBy meaning before t r after → ReadsBy meaning before (bind t k) z after
stops meaning t k f r z before after e g p =
    let m = meaning before.bus.now in
    let sheet = before.sheet.now in
    let bad : came m t ≡ Err f = sym p.read.result ∙ e in
    record {
      read = record { result = g ∙ sym (came_err m k t f bad); told = p.read.told ∙ sym (told_err m k sheet t f before.told bad) };
      bus = p.bus;
      sheet = p.sheet;
    }

-- What asks nothing.
pub at_once : {B A : Type 0} (meaning : B → Meaning) (r : Result A Fault) (reader : BusReader B) → ReadsBy meaning reader (given r) r reader
at_once meaning (Ok x) reader = record { read = record { result = refl; told = refl }; bus = refl; sheet = refl }
at_once meaning (Err f) reader = record { read = record { result = refl; told = refl }; bus = refl; sheet = refl }

-- The store of byte i is inquired about, and then the rest.
pub store_more : (m : Meaning) (n i a : ℕ) → i < n → came m (stores_tree (n - i) (place a i)) ≡ heard (place a i) (m.takes (place a i)) (λ _. came m (stores_tree (n - (i + 1)) (place a (i + 1))))
store_more m n i a h =
    let p = place a i in
    let e : n - i ≡ suc (n - (i + 1)) = omega arith in
    let w : wrap p ≡ p = omega arith in
    rw (e, place_more a i) (ap (λ x. heard p (m.takes x) (λ _. came m (stores_tree (n - (i + 1)) (next p)))) w)

-- Inquiries tell nothing.
nothing_asked : (r : Result (Unit {0}) BusRefusal) (l : List ℕ) → l ≡ [] → onward r (λ _. l) ≡ []
nothing_asked (Ok u) l e = e
nothing_asked (Err b) l e = refl

stores_ask_nothing : (m : Meaning) (n a : ℕ) → asked m (stores_tree n a) ≡ []
stores_ask_nothing m zero a = refl
stores_ask_nothing m (suc n) a = nothing_asked (m.takes (wrap a)) (asked m (stores_tree n (next a))) (stores_ask_nothing m n (next a))

pub inquiring : {B : Type 0} (meaning : B → Meaning) (reader : BusReader B) (n a : ℕ) (r : Result (Unit {0}) Fault) → r ≡ came (meaning reader.bus.now) (stores_tree n a) → ReadsBy meaning reader (stores_tree n a) r reader
inquiring meaning reader n a r e = record {
  read = record { result = e; told = sym (ap (noted reader.sheet.now reader.told) (stores_ask_nothing (meaning reader.bus.now) n a)) };
  bus = refl;
  sheet = refl;
}

-- where one after another came to a value, the first came to one
pub no_value : {A C : Type 0} {f : Fault} {z : C} → ◌≡◌ {A = Result C Fault} (Err f) (Ok z) → A
no_value {f = f} {z = z} e = let n : ◌≡◌ {A = ℕ} 0 1 = cc in absurd (omega arith)

module _ {A C : Type 0} (m : Meaning) (k : A → Tree C) (z : C) where
  abbrev pub CameBy : Result A Fault → Type 0
  CameBy r = (x : A) × (r ≡ Ok x) × (came m (k x) ≡ Ok z)

  heard_by : {X : Type 0} (a : ℕ) (r : Result X BusRefusal) (f : X → Result A Fault) (g : X → Result C Fault) → ((b : X) → g b ≡ Ok z → CameBy (f b)) → heard a r g ≡ Ok z → CameBy (heard a r f)
  heard_by a (Ok b) f g h e = h b e
  heard_by a (Err u) f g h e = no_value e

  pub came_by : (t : Tree A) → came m (bind t k) ≡ Ok z → CameBy (came m t)
  came_by (done x) e = (x, refl, e)
  came_by (stop f) e = no_value e
  came_by (ask a s) e = heard_by a (m.reads (wrap a)) (λ b. came m (s b)) (λ b. came m (bind (s b) k)) (λ b. came_by (s b)) e
  came_by (inquire a t) e = heard_by a (m.takes (wrap a)) (λ _. came m t) (λ _. came m (bind t k)) (λ _. came_by t) e
