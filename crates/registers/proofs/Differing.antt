-- The first register that differs, by its place among the pairs of registers.
use Rattle.std.proofs.Common.{◌≡◌, ℕ, ◌+◌, Bool, not, ◌==◌, List, [], ◌∷◌, length, zip, position, Option, ap, ◌∙◌, sym, arith}
use Rattle.std.specs.Option.{option_map}
use Rattle.std.specs.List.{position_from}
use Rattle.std.proofs.lemmas.Iterator.Adapters.{position_from-zero}
use Rattle.registers.specs.declared.mar.Mar.TheVariants.{Register}
use Rattle.registers.specs.Differences.{register_mar}

abbrev pub differ : ℕ × ℕ → Bool
differ p = not (p.0 == p.1)

counted : (k : ℕ) (xs ys : List ℕ) → length xs ≡ length ys → register_mar k xs ys ≡ option_map Register (position_from differ k (zip xs ys))
counted k [] [] h = grind arith
counted k [] (y ∷ ys) h = absurd (omega arith)
counted k (x ∷ xs) [] h = absurd (omega arith)
counted k (x ∷ xs) (y ∷ ys) h = grind (arith, counted (k + 1) xs ys)

pub first_differs : (xs ys : List ℕ) (r : Option ℕ) → length xs ≡ length ys → r ≡ position differ (zip xs ys) → register_mar 0 xs ys ≡ option_map Register r
first_differs xs ys r h e = counted 0 xs ys h ∙ ap (option_map Register) (sym (e ∙ position_from-zero differ (zip xs ys)))
