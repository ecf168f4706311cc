-- Binary keeps the laws of a counting, and any row of bytes is lawful in it.
use Rattle.std.proofs.Common.{ℕ, suc, ◌<◌, List, [], ◌∷◌, length, get_or, arith, rules}
use Rattle.std.proofs.lemmas.Bool.{lt-ltb}
use Rattle.counting.specs.Binary.{binary}
use Rattle.counting.specs.System.{Laws, Lawful}

pub binary_laws : Laws binary
binary_laws = search rules

pub bytes_lawful : (xs : List ℕ) → ((i : ℕ) → i < length xs → get_or xs i 0 < 256) → Lawful binary xs
bytes_lawful [] h = tt
bytes_lawful (x ∷ xs) h = (lt-ltb x 256 (h 0 (omega arith)), bytes_lawful xs (λ i l. h (suc i) (omega arith)))
