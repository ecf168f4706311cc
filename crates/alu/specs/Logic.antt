-- Logic, byte by byte.
use Rattle.std.specs.Prelude.{ℕ, List, [], ◌∷◌, bit_and, bit_or, bit_xor}
use Rattle.counting.specs.Chain.{first, others}
use Rattle.alu.specs.declared.logic.Logic.{Logic}
use Rattle.alu.specs.declared.logic.Logic.TheVariants.{Or, ExclusiveOr, And, Replace}

-- Two bytes bit by bit; to replace is to take the operand's.
abbrev pub joint : Logic → ℕ → ℕ → ℕ
joint Or a b = bit_or a b
joint ExclusiveOr a b = bit_xor a b
joint And a b = bit_and a b
joint Replace a b = b

-- Each byte with the operand's, which goes on with zero bytes.
abbrev pub joined_row : Logic → List ℕ → List ℕ → List ℕ
joined_row o [] ys = []
joined_row o (x ∷ xs) ys = joint o x (first ys) ∷ joined_row o xs (others ys)
