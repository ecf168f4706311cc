-- Settings worked out by hand, over the definitions that the contracts of the processor cite.
use Rattle.std.specs.Prelude.{◌≡◌, ℕ, ◌+◌, ◌%◌, true, false, [], ◌∷◌, map, Ok}
use Rattle.bus.specs.Meaning.{Meaning}
use Rattle.registers.specs.declared.cpu.rows.Form.TheVariants.{Multi}
use Rattle.registers.specs.declared.status.Status.{Status}
use Rattle.registers.specs.State.{State, pc_of}
use Rattle.registers.specs.Rows.{register_at, span_of, with_row, with_pair}
use Rattle.alu.specs.Examples.{WorkedExamples}
use Rattle.reading.specs.Trees.{wrap, came}
use Rattle.decode.specs.declared.instruction.Condition.TheVariants.{Positive}
use Rattle.execute.specs.Conditions.{met}
use Rattle.execute.specs.Instructions.{plan_tree}
use Rattle.execute.specs.Plans.{Plan}
use Rattle.laws.specs.Parts.{in_row}

-- On a bus of this meaning the instruction is not refused, and what comes of it is as P says.
abbrev pub Comes : Meaning → State → (Plan → Type 0) → Type 0
Comes m s P = (p : Plan) × (came m (plan_tree s) ≡ Ok p) × P p

-- R30 and R31 (24 and 25) take what R42 and R43 (34 and 35) hold, and the program counter goes on by 1.
abbrev pub loaded : State → State
loaded s = with_row (with_pair s 4 ((pc_of s + 1) % 65536)) 24 (register_at s.registers 34 ∷ register_at s.registers 35 ∷ [])

-- A jump of two bytes at 256, the second of which is the offset, goes to an address.
abbrev pub Goes : State → ℕ → ℕ → Type 0
Goes s offset to = (m : Meaning) → m.reads 256 ≡ Ok 0xF0 → m.reads 257 ≡ Ok offset → Comes m (with_pair s 4 256) (λ p. pc_of p.after ≡ to)

-- The settings, for a processor in any state.
pub record WorkedSettings (s : State) : Type 0 where
  -- At DRP R42, R30, R37 and R77 a multi form spans 6, 2, 1 and 1 registers.
  pub spans : map (span_of Multi) (34 ∷ 24 ∷ 31 ∷ 63 ∷ []) ≡ 6 ∷ 2 ∷ 1 ∷ 1 ∷ []
  -- LDM R30,R42 is code A1 with ARP at R42 and DRP at R30. Of the registers it changes R30, R31 and the program counter only.
  pub load : (m : Meaning) → m.reads (wrap (pc_of s)) ≡ Ok 0xA1 → Comes m (record s { arp = 34; drp = 24 }) (λ p. p.after.registers ≡ (loaded s).registers)
  pub only : (k : ℕ) → in_row 24 2 k ≡ false → in_row 4 2 k ≡ false → register_at (loaded s).registers k ≡ register_at s.registers k
  -- F0 FE at 256 goes to 256, and F0 7F to 385.
  pub back : Goes s 0xFE 256
  pub ahead : Goes s 0x7F 385
  -- JPS jumps where OVF and MSB are both 1, as after ICB of 7F.
  pub positive : (f : Status) (e : ℕ) → f.ovf ≡ true → f.msb ≡ true → met Positive f e ≡ true
  -- The arithmetic.
  pub arithmetic : WorkedExamples
