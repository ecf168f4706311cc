-- The list of what the 256 codes stand for, and tests over them all: which of them are instructions, and that each instruction is
-- found first at its own code.
use Rattle.std.proofs.Common.{◌≡◌, ℕ, ◌<◌, Bool, true, false, not, eqb, is_some, Some, None, Option, map, get_or, sym, refl, ap, ◌∙◌, arith}
use Rattle.std.specs.List.{position_or_len, range_with_len}
use Rattle.std.proofs.lemmas.Bool.{eqb-true, agree_below_at}
use Rattle.std.proofs.lemmas.List.FromFn.{get_or-map-range_with_len}
use Rattle.decode.specs.declared.instruction.Instruction.{Instruction}
use Rattle.decode.specs.contracts.instruction.InstructionPartialEq.TheImpl as derived
use Rattle.decode.specs.Codes.{decoded}
use Rattle.decode.specs.OneToOne.{illegal, CodesAreOneToOne}

pub at_code : (i c : ℕ) → i ≡ c → c < 256 → get_or (map decoded (range_with_len 0 256)) i None ≡ decoded c
at_code i c e h = get_or-map-range_with_len decoded 0 256 i c None (omega arith) (omega arith)

pub legal : (c : ℕ) → c < 256 → is_some (decoded c) ≡ not (illegal c)
legal c h = agree_below_at (λ n. is_some (decoded n)) (λ n. not (illegal n)) 256 c refl h

abbrev is_some_of : Instruction → Option Instruction → Bool
is_some_of i None = false
is_some_of i (Some j) = (derived.ghosts).eq i j

abbrev first : Instruction → ℕ
first i = position_or_len (λ c. is_some_of i (decoded c)) (range_with_len 0 256)

abbrev found_at : ℕ → Option Instruction → Bool
found_at c None = true
found_at c (Some i) = eqb (first i) c

found : (c : ℕ) (i : Instruction) → c < 256 → decoded c ≡ Some i → first i ≡ c
found c i h e = eqb-true (first i) c (sym (ap (found_at c) e) ∙ agree_below_at (λ n. found_at n (decoded n)) (λ _. true) 256 c refl h)

pub one_to_one : CodesAreOneToOne
one_to_one c d i h k p q = sym (found c i h p) ∙ found d i k q
