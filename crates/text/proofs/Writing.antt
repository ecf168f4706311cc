-- One write after another.
use Rattle.std.proofs.Common.{◌≡◌, ℕ, ◌+◌, ◌/◌, ◌%◌, ◌^◌, ◌<◌, List, [], ◌∷◌, ◌++◌, length, take, get_or, map, sym, refl, ap, subst, ◌∙◌, add-zero, arith, length-append}
use Rattle.std.specs.List.{flat_map}
use Rattle.std.proofs.lemmas.List.{same_lists, length-map, get_or-map}
use Rattle.std.proofs.lemmas.List.Folds.{flat_map-map}
use Rattle.std.proofs.lemmas.Grind.{common_steps}
use Rattle.byte_rows.specs.Rows.{over}
use Rattle.byte_rows.proofs.Writing.{over_over, over_none}
use Rattle.text.specs.declared.Line.{Line}
use Rattle.text.specs.Line.{Wrote}
use Rattle.text.specs.declared.Piece.{Piece}
use Rattle.text.specs.declared.Piece.TheVariants.{Byte, Hex4}
use Rattle.text.specs.Pieces.{hex_digit, hex2, spelled, joined, apart, one_apart}

pub wrote_more : (l m n : Line) (s t : List ℕ) → Wrote l m s → Wrote m n t → Wrote l n (s ++ t)
wrote_more l m n s t f g = record {
  same = g.same ∙ f.same;
  row = g.row ∙ (λ x. over (f.row x) (f.place x) t) ∙ over_over l.out.now l.at s t;
  size = g.size ∙ f.size;
  place = omega (arith, f.place, g.place, length-append s t);
}

pub joined_none : (l : Line) → Wrote l l (joined [])
unfolding joined
joined_none l = record { same = refl; row = sym (over_none l.out.now l.at); size = refl; place = sym (add-zero l.at) }

pub joined_push : (l m n : Line) (ps : List Piece) (i : ℕ) → i < length ps → Wrote l m (joined (take i ps)) → Wrote m n (spelled (get_or ps i (Byte 0))) → Wrote l n (joined (take (i + 1) ps))
unfolding joined
joined_push l m n ps i h p q = let w = wrote_more l m n _ _ p q in grind (arith, common_steps)

pub hex4 : (l m k : Line) (n : ℕ) → n < 2 ^ 16 → Wrote l m (hex2 (n / 256 % 256)) → Wrote m k (hex2 (n % 256)) → Wrote l k (spelled (Hex4 n))
hex4 l m k n h f g =
    let a : n / 256 % 256 / 16 ≡ n / 4096 = omega arith in
    let b : n / 256 % 256 % 16 ≡ n / 256 % 16 = omega arith in
    let c : n % 256 / 16 ≡ n / 16 % 16 = omega arith in
    let d : n % 256 % 16 ≡ n % 16 = omega arith in
    subst (Wrote l k) (λ x. hex_digit (a x) ∷ hex_digit (b x) ∷ hex_digit (c x) ∷ hex_digit (d x) ∷ []) (wrote_more l m k _ _ f g)

-- an array of what each byte of a row gives, end to end
pub row_apart : (bs : List ℕ) (ys : List (List ℕ)) → length ys ≡ length bs → ((k : ℕ) (d : List ℕ) → k < length ys → get_or ys k d ≡ one_apart (get_or bs k 0)) → flat_map (λ y. y) ys ≡ apart bs
row_apart bs ys long each =
    let same : ys ≡ map one_apart bs = same_lists ys (map one_apart bs) (long ∙ sym (length-map bs one_apart)) (λ k d h. each k d h ∙ sym (get_or-map one_apart bs k 0 d (omega (arith, h, long)))) in
    ap (flat_map (λ y. y)) same ∙ flat_map-map (λ y. y) one_apart bs
