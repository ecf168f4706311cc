-- A row filled byte by byte.
use Rattle.std.proofs.Common.{◌≡◌, ℕ, suc, ◌+◌, ◌%◌, ◌<◌, List, [], ◌∷◌, ◌++◌, length, get_or, take, drop, set, Ok, Err, Option, Result, refl, ap, sym, ◌∙◌, append_assoc, arith}
use Rattle.std.proofs.Math.Path.{fun_ext}
use Rattle.std.proofs.lemmas.List.{take_more_set, drop-set-lt, drop_more}
use Rattle.bus.specs.Meaning.{Meaning}
use Rattle.bus.specs.declared.refusal.BusRefusal.{BusRefusal}
use Rattle.reading.specs.declared.fault.Fault.{Fault}
use Rattle.reading.specs.declared.reads.BusReader.{BusReader}
use Rattle.reading.specs.Sheets.{noted}
use Rattle.reading.specs.Trees.{wrap, Tree, done, stop, ask, inquire, heard, onward, came, asked, bind}
use Rattle.reading.specs.Readings.{next, byte_tree, row_tree, ReadsBy, got_by, row_got}

-- two binds in a row are one
bind_bind : {A C D : Type 0} (t : Tree A) (f : A → Tree C) (g : C → Tree D) → bind (bind t f) g ≡ bind t (λ x. bind (f x) g)
bind_bind (done x) f g = refl
bind_bind (stop e) f g = refl
bind_bind (ask a k) f g = ap (ask a) (fun_ext (λ b. bind_bind (k b) f g))
bind_bind (inquire a t) f g = ap (inquire a) (bind_bind t f g)

bind_done : {A : Type 0} (t : Tree A) → bind t (λ x. done x) ≡ t
bind_done (done x) = refl
bind_done (stop e) = refl
bind_done (ask a k) = ap (ask a) (fun_ext (λ b. bind_done (k b)))
bind_done (inquire a t) = ap (inquire a) (bind_done t)

-- n bytes upward, after those that were read before
abbrev pub row_after : List ℕ → ℕ → ℕ → Tree (List ℕ)
row_after before n a = bind (row_tree n a) (λ bs. done (before ++ bs))

row_after_more : (before : List ℕ) (n a : ℕ) → row_after before (suc n) a ≡ ask a (λ b. row_after (before ++ b ∷ []) n (next a))
row_after_more before n a = ap (ask a) (fun_ext (λ b. bind_bind (row_tree n (next a)) (λ bs. done (b ∷ bs)) (λ bs. done (before ++ bs)) ∙ ap (bind (row_tree n (next a))) (fun_ext (λ bs. ap done (sym (append_assoc before (b ∷ []) bs))))))

-- the address of byte i of a row
abbrev pub place : ℕ → ℕ → ℕ
place a i = (a + i % 65536) % 65536

pub place_more : (a i : ℕ) → place a (i + 1) ≡ next (place a i)
place_more a i = omega arith

module _ (m : Meaning) (sheet : List ℕ) where
  -- what comes of a tree, and what is told after it
  abbrev comes : {A : Type 0} → Tree A → Option ℕ → Result A Fault × Option ℕ
  comes t told = (came m t, noted sheet told (asked m t))

  -- what comes of a tree once its first byte was read
  abbrev goes_on : {A : Type 0} → Result ℕ Fault → Option ℕ → (ℕ → Tree A) → Result A Fault × Option ℕ
  goes_on (Ok b) told k = comes (k b) told
  goes_on (Err f) told k = (Err f, told)

  asks_by : {A : Type 0} (a : ℕ) (k : ℕ → Tree A) (u : Option ℕ) (x : Result ℕ BusRefusal) → goes_on (heard a x (λ b. Ok b)) (noted sheet u (onward x (λ b. []))) k ≡ (heard a x (λ b. came m (k b)), noted sheet u (onward x (λ b. asked m (k b))))
  asks_by a k u (Ok b) = refl
  asks_by a k u (Err e) = refl

gets_by : (a x : ℕ) (xs more : List ℕ) (y : Result ℕ BusRefusal) → got_by (heard a y (λ b. Ok b)) x xs more ≡ got_by y x xs more
gets_by a x xs more (Ok b) = refl
gets_by a x xs more (Err e) = refl

module _ {B : Type 0} (meaning : B → Meaning) (reader₀ : BusReader B) (old : List ℕ) (a₀ : ℕ) where
  abbrev bus : Meaning
  bus = meaning reader₀.bus.now

  abbrev whole : Result (List ℕ) Fault × Option ℕ
  whole = comes bus reader₀.sheet.now (row_tree (length old) a₀) reader₀.told

  -- the first i bytes of the row were read, and what is left to read comes to what there was
  pub record Filling (xs : List ℕ) (i : ℕ) (reader : BusReader B) : Type 0 where
    pub left : comes bus reader₀.sheet.now (row_after (take i xs) (length (drop i xs)) (place a₀ i)) reader.told ≡ whole
    pub got : take i xs ++ row_got bus.reads (place a₀ i) (drop i xs) ≡ row_got bus.reads a₀ old
    pub bus : reader.bus.now ≡ reader₀.bus.now
    pub sheet : reader.sheet.now ≡ reader₀.sheet.now

  pub filling_begins : a₀ < 65536 → Filling old 0 reader₀
  filling_begins h =
      let first : place a₀ 0 ≡ a₀ = omega arith in
      record {
        left = rw first (ap (λ t. comes bus reader₀.sheet.now t reader₀.told) (bind_done (row_tree (length old) a₀)));
        got = rw first refl;
        bus = refl;
        sheet = refl;
      }

  module _ (xs : List ℕ) (i : ℕ) (reader reader' : BusReader B) (h : i < length xs) (f : Filling xs i reader) where
    abbrev a : ℕ
    a = place a₀ i

    abbrev rest : List ℕ
    rest = drop (i + 1) xs

    left_on : (r : Result ℕ Fault) → ReadsBy meaning reader (byte_tree a) r reader' → goes_on bus reader₀.sheet.now r reader'.told (λ b. row_after (take i xs ++ b ∷ []) (length rest) (next a)) ≡ whole
    left_on r q =
        let left = rw (drop_more xs i 0 h) at f.left in
        let read = rw (f.bus, f.sheet) at q.read in
        (λ j. goes_on bus reader₀.sheet.now (read.result j) (read.told j) (λ b. row_after (take i xs ++ b ∷ []) (length rest) (next a))) ∙ asks_by bus reader₀.sheet.now a _ _ (bus.reads (wrap a)) ∙ ap (λ t. comes bus reader₀.sheet.now t reader.told) (sym (row_after_more (take i xs) (length rest) a)) ∙ left

    pub filling_more : (b : ℕ) → ReadsBy meaning reader (byte_tree a) (Ok b) reader' → Filling (set xs i b) (i + 1) reader'
    filling_more b q =
        let got = rw (drop_more xs i 0 h) at f.got in
        let read = rw (f.bus, f.sheet) at q.read in
        let more = row_got bus.reads (next a) rest in
        let k : i < i + 1 = omega arith in
        let t = take_more_set xs i b h in
        let d = drop-set-lt (i + 1) xs i b k in
        record {
          left = rw (t, d, place_more a₀ i) (left_on (Ok b) q);
          got = rw (t, d, place_more a₀ i) (append_assoc (take i xs) (b ∷ []) more ∙ ap (λ z. take i xs ++ z) (ap (λ r. got_by r (get_or xs i 0) rest more) read.result ∙ gets_by a _ _ _ (bus.reads (wrap a))) ∙ got);
          bus = q.bus ∙ f.bus;
          sheet = q.sheet ∙ f.sheet;
        }

    pub filling_stops : (e : Fault) → ReadsBy meaning reader (byte_tree a) (Err e) reader' → ReadsBy meaning reader₀ (row_tree (length old) a₀) (Err e) reader'
    filling_stops e q = record {
      read = record { result = ap (λ p. p.0) (left_on (Err e) q); told = ap (λ p. p.1) (left_on (Err e) q) };
      bus = q.bus ∙ f.bus;
      sheet = q.sheet ∙ f.sheet;
    }
