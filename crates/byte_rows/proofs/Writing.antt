-- What stands in a row after bytes were written over it.
use Rattle.std.proofs.Common.{◌≡◌, ℕ, suc, ◌+◌, ◌-◌, ◌<◌, ◌≤◌, ◌&&◌, leb, ltb, List, [], ◌∷◌, ◌++◌, cond, length, get_or, take, drop, replicate, set, sym, refl, ap, ◌∙◌, add-zero, add-suc, suc-add, arith}
use lib.Seq.{sets, sets-eq, length-sets, take-length}
use borrow.Rule.Slice.PartMut.{put_mid}
use Rattle.std.proofs.lemmas.Bool.Decides.{nat_tests}
use Rattle.std.proofs.lemmas.Grind.{elements}
use Rattle.std.proofs.lemmas.List.{get_or-set_other, take_at}
use Rattle.std.proofs.lemmas.Slice.{put_mid-paste}
use Rattle.byte_rows.specs.Rows.{over, zeros}

pub over_none : (row : List ℕ) (i : ℕ) → over row i [] ≡ row
unfolding over
over_none row i = refl

pub over_over : (row : List ℕ) (i : ℕ) (s t : List ℕ) → over (over row i s) (i + length s) t ≡ over row i (s ++ t)
unfolding over
over_over row i [] t = rw (add-zero i)
over_over row i (b ∷ s) t = rw (add-suc, ← suc-add) (over_over (set row i b) (suc i) s t)

over_sets : (row : List ℕ) (i : ℕ) (s : List ℕ) → over row i s ≡ sets row i s
unfolding over
over_sets row i [] = refl
over_sets row i (b ∷ s) = over_sets (set row i b) (suc i) s

pub length_over : (row : List ℕ) (i : ℕ) (s : List ℕ) → length (over row i s) ≡ length row
length_over row i s = ap length (over_sets row i s) ∙ length-sets row i s

-- what a copy into row[i..i + k] leaves
pub over_part : (row : List ℕ) (i k : ℕ) (ys s : List ℕ) → ys ≡ s → length s ≡ k → i + length s ≤ length row → put_mid i k row ys ≡ over row i s
over_part row i k ys s e n h = put_mid-paste i k row ys s (length s) e n refl ∙ ap (λ l. take i row ++ l ++ drop (i + length s) row) (take-length s) ∙ sym (sets-eq s row i h) ∙ sym (over_sets row i s)

-- each byte after a write
pub get_or_over : (row : List ℕ) (i : ℕ) (s : List ℕ) (x : ℕ) → i + length s ≤ length row → get_or (over row i s) x 0 ≡ cond (leb i x && ltb x (i + length s)) (get_or s (x - i) 0) (get_or row x 0)
get_or_over row i s x h = ap (λ l. get_or l x 0) (over_sets row i s ∙ sets-eq s row i h) ∙ grind (arith, elements, nat_tests)

-- Below the bytes written and past them stands what was there, also where they run past the end. For who builds on this crate.
pub get_or_over_before : (row : List ℕ) (i : ℕ) (s : List ℕ) (x : ℕ) → x < i → get_or (over row i s) x 0 ≡ get_or row x 0
unfolding over
get_or_over_before row i [] x h = refl
get_or_over_before row i (b ∷ s) x h = get_or_over_before (set row i b) (suc i) s x (omega arith) ∙ get_or-set_other row i x b 0 (omega arith)

pub get_or_over_after : (row : List ℕ) (i : ℕ) (s : List ℕ) (x : ℕ) → i + length s ≤ x → get_or (over row i s) x 0 ≡ get_or row x 0
unfolding over
get_or_over_after row i [] x h = refl
get_or_over_after row i (b ∷ s) x h = get_or_over_after (set row i b) (suc i) s x (omega arith) ∙ get_or-set_other row i x b 0 (omega arith)

-- what stands at the front after a write there
pub over_front : (row s : List ℕ) → length s ≤ length row → take (length s) (over row 0 s) ≡ s
over_front row s h = ap (take (length s)) (over_sets row 0 s ∙ sets-eq s row 0 (omega arith)) ∙ take_at s (drop (0 + length s) row) (length s) refl

-- zero bytes as code makes them
pub is_zeros : (n : ℕ) (row : List ℕ) → row ≡ replicate n 0 → row ≡ zeros n
unfolding zeros
is_zeros n row e = e
