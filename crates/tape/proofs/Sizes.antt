-- A record takes no more bytes than are left, and begins with two capital letters.
use Rattle.std.proofs.Common.{◌≡◌, ℕ, ◌+◌, ◌≤◌, List, [], ◌∷◌, length, get_or, drop, Some, None, Ok, Err, Option, Result, refl, arith}
use Rattle.std.proofs.lemmas.Bool.Decides.{nat_tests}
use Rattle.std.proofs.lemmas.Grind.{common_steps}
use Rattle.tape.specs.declared.record.Turn.{Turn}
use Rattle.tape.specs.declared.record.Mark.{Mark}
use Rattle.tape.specs.declared.record.TapeFault.{TapeFault}
use Rattle.tape.specs.Records.{Entry, size_of, mark_of, admit_of, fields_of, bind, record_of}

-- a mark that is admitted stands there whole
marked : (t : Turn) (rest : List ℕ) (m : Mark) → bind (mark_of rest) (admit_of t) ≡ Ok m → 2 ≤ length rest
marked t rest m h = grind (arith, common_steps)

fields_fit : (m : Mark) (at : ℕ) (bs : List ℕ) (e : Entry) → fields_of m at bs ≡ Ok e → size_of e ≤ 2 + length bs
fields_fit m at bs e h = grind (arith, common_steps)

fits : (r : Result Mark TapeFault) (at : ℕ) (rest : List ℕ) (e : Entry) → ((m : Mark) → r ≡ Ok m → 2 ≤ length rest) → bind r (λ m. fields_of m at (drop 2 rest)) ≡ Ok e → size_of e ≤ length rest
fits r at rest e = grind (arith, common_steps, fields_fit)

pub record_fits : (t : Turn) (at : ℕ) (rest : List ℕ) (e : Entry) → record_of t at rest ≡ Ok e → size_of e ≤ length rest
record_fits t at rest e h = fits (bind (mark_of rest) (admit_of t)) (at + 2) rest e (marked t rest) h

pub two_or_more : (e : Entry) → 2 ≤ size_of e
two_or_more e = grind arith

abbrev IsCapital : ℕ → Type 0
IsCapital c = (65 ≤ c) × (c ≤ 90)

-- a mark by its letters
lettered : (t : Turn) (rest : List ℕ) (m : Mark) → bind (mark_of rest) (admit_of t) ≡ Ok m → IsCapital (get_or rest 0 0) × IsCapital (get_or rest 1 0)
lettered t [] m h = absurd (omega (arith, marked t [] m h))
lettered t (a ∷ []) m h = absurd (omega (arith, marked t (a ∷ []) m h))
lettered t (a ∷ b ∷ rest) m h = grind (arith, nat_tests)

admitted : (r : Result Mark TapeFault) (at : ℕ) (bs : List ℕ) (e : Entry) → bind r (λ m. fields_of m at bs) ≡ Ok e → (m : Mark) × (r ≡ Ok m)
admitted (Ok m) at bs e h = (m, refl)
admitted (Err f) at bs e h = absurd (cc)

pub record_letters : (t : Turn) (at : ℕ) (rest : List ℕ) (e : Entry) → record_of t at rest ≡ Ok e → IsCapital (get_or rest 0 0) × IsCapital (get_or rest 1 0)
record_letters t at rest e h =
    let m = admitted (bind (mark_of rest) (admit_of t)) (at + 2) (drop 2 rest) e h in
    lettered t rest m.0 m.1
