-- The sheet has a bit for each address. A stain is a taint bit: the address was last stored to by an interrupt handler.
use Rattle.std.specs.Prelude.{ℕ, ◌/◌, ◌%◌, ◌^◌, Bool, cond, List, [], ◌∷◌, Some, None, Option, ◌==◌, slice_index}

-- Address a is stained when bit a mod 8 of byte a/8 is set.
abbrev pub stained : List ℕ → ℕ → Bool
stained sheet a = slice_index sheet (a / 8) / 2 ^ (a % 8) % 2 == 1

-- The first stained address that is read is told, which means that the answer names it: the one noted before, or the
-- first of those read.
abbrev pub note : List ℕ → Option ℕ → ℕ → Option ℕ
note sheet None a = cond (stained sheet a) (Some a) None
note sheet (Some t) a = Some t

-- The same over addresses that are read one after another.
abbrev pub noted : List ℕ → Option ℕ → List ℕ → Option ℕ
noted sheet told [] = told
noted sheet told (a ∷ more) = noted sheet (note sheet told a) more
