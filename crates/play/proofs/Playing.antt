-- The lines of a read-out, and a row of which the first n bytes are written.
use Rattle.std.proofs.Common.{◌≡◌, ℕ, zero, suc, ◌+◌, ◌*◌, ◌<◌, ◌≤◌, List, [], ◌∷◌, ◌++◌, length, get_or, take, drop, set, sym, refl, ap, ◌∙◌, arith, length-set, length-append, append-nil, append_assoc, add-one, zero-add, subst, slice_range, ◌-◌}
use Rattle.std.proofs.lemmas.Grind.{common_steps, flat_map-append}
use Rattle.std.proofs.lemmas.List.{set-append_left, take-append-drop, drop-drop}
use Rattle.std.specs.List.{flat_map, range_with_len}
use Rattle.std.specs.Simd.{first_chunks}
use Rattle.byte_rows.specs.Rows.{over}
use Rattle.byte_rows.proofs.Writing.{over_over}
use Rattle.text.specs.declared.Piece.{Piece}
use Rattle.text.specs.Pieces.{spelled, joined}
use Rattle.play.specs.Lines.{row_line, register_line}

over_left : (a b : List ℕ) (i : ℕ) (s : List ℕ) → i + length s ≤ length a → over (a ++ b) i s ≡ over a i s ++ b
unfolding over
over_left a b i [] h = refl
over_left a b i (x ∷ s) h = let n = length-set a i x in ap (λ t. over t (suc i) s) (set-append_left a b i x (omega arith)) ∙ over_left (set a i x) b (suc i) s (omega arith)

pub over_chunk : (row s : List ℕ) (n : ℕ) → length s ≤ n → n ≤ length row → over (take n row) 0 s ++ drop n row ≡ over row 0 s
over_chunk row s n h k = sym (over_left (take n row) (drop n row) 0 s (grind (arith, common_steps))) ∙ ap (λ t. over t 0 s) (take-append-drop n row)

pub joined_none : joined [] ≡ []
unfolding joined
joined_none = refl

-- The pieces were written from place i on, and end before place n.
pub record Put (old new : List ℕ) (i n : ℕ) (ps : List Piece) : Type 0 where
  pub row : new ≡ over old i (joined ps)
  pub end : n ≡ i + length (joined ps)

put_more : (row row' row'' : List ℕ) (i n m : ℕ) (ps qs : List Piece) → Put row row' i n ps → Put row' row'' n m qs → Put row row'' i m (ps ++ qs)
put_more row row' row'' i n m ps qs p q =
    let j : joined (ps ++ qs) ≡ joined ps ++ joined qs = unfold joined in flat_map-append spelled ps qs in
    record {
      row = q.row ∙ (λ z. over (p.row z) (p.end z) (joined qs)) ∙ over_over row i (joined ps) (joined qs) ∙ ap (over row i) (sym j);
      end = omega (arith, p.end, q.end, ap length j, length-append (joined ps) (joined qs));
    }

chunk_at : (n k i : ℕ) (xs : List ℕ) → i < k → get_or (first_chunks n k xs) i [] ≡ take n (drop (n * i) xs)
chunk_at n zero i xs h = absurd (omega arith)
chunk_at n (suc k) zero xs h = let e : 0 ≡ n * 0 = omega arith in ap (λ m. take n (drop m xs)) e
chunk_at n (suc k) (suc i) xs h =
    let e : n + n * i ≡ n * suc i = omega arith in
    chunk_at n k i (drop n xs) (omega arith) ∙ ap (take n) (drop-drop (n * i) n xs ∙ ap (λ m. drop m xs) e)

lines_more : (f : ℕ → List Piece) (a k j : ℕ) → a + k ≡ j → flat_map f (range_with_len a (suc k)) ≡ flat_map f (range_with_len a k) ++ f j
lines_more f a zero j e = let d : a ≡ j = omega (arith, e) in append-nil (f a) ∙ ap f d
lines_more f a (suc k) j e = ap (λ t. f a ++ t) (lines_more f (a + 1) k j (omega (arith, e))) ∙ sym (append_assoc (f a) (flat_map f (range_with_len (a + 1) k)) (f j))

-- one line of registers more
pub line_more : (row row' row'' : List ℕ) (n m : ℕ) (ps : List Piece) (rs : List ℕ) (k : ℕ) → k < 8 → Put row row' 0 n (ps ++ flat_map (register_line rs) (range_with_len 0 k)) → Put row' row'' n m (row_line k (get_or (first_chunks 8 8 rs) k [])) → Put row row'' 0 m (ps ++ flat_map (register_line rs) (range_with_len 0 (k + 1)))
line_more row row' row'' n m ps rs k h p q =
    let eight : 8 ≡ 8 * k + 8 - 8 * k = omega arith in
    let same : get_or (first_chunks 8 8 rs) k [] ≡ slice_range rs (8 * k) (8 * k + 8) = chunk_at 8 8 k rs h ∙ ap (λ m. take m (drop (8 * k) rs)) eight in
    let w : Put row row'' 0 m ((ps ++ flat_map (register_line rs) (range_with_len 0 k)) ++ register_line rs k) = put_more row row' row'' 0 n m _ (register_line rs k) p (subst (λ t. Put row' row'' n m (row_line k t)) same q) in
    rw (add-one, lines_more (register_line rs) 0 k k (zero-add k), ← append_assoc) w
