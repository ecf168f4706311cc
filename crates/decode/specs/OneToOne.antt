-- Codes and instructions.
use Rattle.std.specs.Prelude.{◌≡◌, ℕ, ◌<◌, Bool, ◌||◌, Some, ◌==◌}
use Rattle.decode.specs.declared.instruction.Instruction.{Instruction}
use Rattle.decode.specs.Codes.{decoded}

-- D6 and DE are the illegal codes.
abbrev pub illegal : ℕ → Bool
illegal c = c == 0xD6 || c == 0xDE

-- No two codes decode to the same instruction.
abbrev pub CodesAreOneToOne : Type 0
CodesAreOneToOne = (c d : ℕ) (i : Instruction) → c < 256 → d < 256 → decoded c ≡ Some i → decoded d ≡ Some i → c ≡ d
