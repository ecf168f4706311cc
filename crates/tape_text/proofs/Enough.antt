-- More records are not looked for than there can be, and what is still to be listed.
use Rattle.std.proofs.Common.{◌≡◌, ℕ, zero, suc, ◌+◌, ◌-◌, ◌<◌, ◌≤◌, List, [], ◌∷◌, ◌++◌, length, min, take, drop, Ok, Err, refl, sym, ap, ◌∙◌, length-append, length-drop, arith}
use Rattle.std.proofs.lemmas.List.{nil_from_length}
use Rattle.std.specs.List.{flat_map}
use Rattle.std.specs.Prelude.{codes}
use Rattle.std.specs.Simd.{first_chunks}
use Rattle.std.specs.Slice.Iter.{chunk_count}
use Rattle.tape.specs.declared.record.TapeFault.{TapeFault}
use Rattle.tape.specs.declared.record.Turn.TheVariants as turn
use Rattle.tape.specs.Records.{Entry, size_of, record_of}
use Rattle.tape.proofs.Sizes.{record_fits, two_or_more}
use Rattle.tape_text.specs.Listing.{line_of, rows_of, record_line, listed_by, listed, left, text_of, EveryRecordIsListed}

-- a record that stands there is at most as long as what is left
room : (place : ℕ) (tape : List ℕ) (e : Entry) → record_of turn.Any place (drop place tape) ≡ Ok e → (2 ≤ size_of e) × (place + size_of e ≤ length tape)
room place tape e q =
    let two = two_or_more e in
    (two, omega (arith, length-drop place tape, record_fits turn.Any place (drop place tape) e q))

-- at the tape's end no record is looked for
at_end : (n place : ℕ) (tape : List ℕ) → length tape ≤ place → listed n place tape ≡ rows_of (drop place tape)
unfolding listed
at_end zero place tape h = refl
at_end (suc n) place tape h =
    let nil : drop place tape ≡ [] = nil_from_length (drop place tape) (omega (arith, length-drop place tape)) in
    ap (λ bytes. listed_by (record_of turn.Any place bytes) (λ size. listed n (place + size) tape) bytes) nil ∙ ap rows_of (sym nil)

enough : (m n place : ℕ) (tape : List ℕ) → length tape - place ≤ m → length tape - place ≤ n → listed m place tape ≡ listed n place tape
unfolding listed
enough zero n place tape p q = sym (at_end n place tape (omega arith))
enough (suc m) zero place tape p q = at_end (suc m) place tape (omega arith)
enough (suc m) (suc n) place tape p q =
    elim (record_of turn.Any place (drop place tape)) as (λ r. record_of turn.Any place (drop place tape) ≡ r → listed_by r (λ size. listed m (place + size) tape) (drop place tape) ≡ listed_by r (λ size. listed n (place + size) tape) (drop place tape)) [
      | Ok e ↦ λ h.
          let fits = room place tape e h in
          ap (λ t. record_line (take (size_of e) (drop place tape)) ++ t) (enough m n (place + size_of e) tape (omega arith) (omega arith))
      | Err f ↦ λ h. refl
    ] refl

pub every_record_is_listed : EveryRecordIsListed
every_record_is_listed tape more = enough (length tape + more) (length tape) 0 tape (omega arith) (omega arith)

pub left_all : (tape : List ℕ) → left 0 tape ≡ text_of tape
left_all tape = ap (λ n. listed n 0 tape) (omega arith)

record_next : (n place : ℕ) (tape : List ℕ) (e : Entry) → length tape - place ≤ n → record_of turn.Any place (drop place tape) ≡ Ok e → listed n place tape ≡ record_line (take (size_of e) (drop place tape)) ++ left (place + size_of e) tape
unfolding listed
record_next zero place tape e p q = let fits = room place tape e q in absurd (omega arith)
record_next (suc n) place tape e p q =
    let fits = room place tape e q in
    ap (λ r. listed_by r (λ size. listed n (place + size) tape) (drop place tape)) q ∙ ap (λ t. record_line (take (size_of e) (drop place tape)) ++ t) (enough n (length tape - (place + size_of e)) (place + size_of e) tape (omega arith) (omega arith))

rest_next : (n place : ℕ) (tape : List ℕ) (f : TapeFault) → record_of turn.Any place (drop place tape) ≡ Err f → listed n place tape ≡ rows_of (drop place tape)
unfolding listed
rest_next zero place tape f q = refl
rest_next (suc n) place tape f q = ap (λ r. listed_by r (λ size. listed n (place + size) tape) (drop place tape)) q

-- one record more, or what is left
pub left_record : (place : ℕ) (tape : List ℕ) (e : Entry) → record_of turn.Any place (drop place tape) ≡ Ok e → left place tape ≡ record_line (take (size_of e) (drop place tape)) ++ left (place + size_of e) tape
left_record place tape e q = let fits = room place tape e q in record_next (length tape - place) place tape e (omega arith) q

pub left_rest : (place : ℕ) (tape : List ℕ) (f : TapeFault) → record_of turn.Any place (drop place tape) ≡ Err f → left place tape ≡ rows_of (drop place tape)
left_rest place tape f q = rest_next (length tape - place) place tape f q

-- a row that is shorter than n is the last
cut : (n : ℕ) (row rest : List ℕ) → length row ≡ min n (length (row ++ rest)) → (take n (row ++ rest) ≡ row) × (drop n (row ++ rest) ≡ rest)
cut zero [] rest h = (refl, refl)
cut zero (x ∷ row) rest h = absurd (omega arith)
cut (suc n) [] rest h = let nil : rest ≡ [] = nil_from_length rest (omega arith) in (ap (take (suc n)) nil, ap (drop (suc n)) nil ∙ sym nil)
cut (suc n) (x ∷ row) rest h = let r = cut n row rest (omega arith) in (ap (λ t. x ∷ t) r.0, r.1)

pub rows_first : (row rest : List ℕ) → 0 < length (row ++ rest) → length row ≡ min 16 (length (row ++ rest)) → rows_of (row ++ rest) ≡ line_of (codes "..") row ++ rows_of rest
rows_first row rest h l =
    let count : chunk_count (length (row ++ rest)) 16 ≡ suc (chunk_count (length rest) 16) = omega (arith, length-append row rest) in
    let parts = cut 16 row rest l in
    ap (λ n. flat_map (line_of (codes "..")) (first_chunks 16 n (row ++ rest))) count ∙ (λ i. line_of (codes "..") (parts.0 i) ++ flat_map (line_of (codes "..")) (first_chunks 16 (chunk_count (length rest) 16) (parts.1 i)))
