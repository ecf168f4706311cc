-- Settings worked out by hand.
use Rattle.std.proofs.Common.{◌≡◌, ℕ, ◌+◌, ◌%◌, true, [], ◌∷◌, length, Ok, refl, ap, ◌∙◌}
use Rattle.bus.specs.Meaning.{Meaning}
use Rattle.alu.specs.Examples.{WorkedExamples}
use Rattle.registers.specs.declared.status.Status.{Status}
use Rattle.registers.specs.State.{State, pc_of}
use Rattle.registers.specs.Rows.{register_at, row_at, registers_with, with_pair}
use Rattle.reading.specs.Trees.{wrap}
use Rattle.decode.specs.declared.instruction.Condition.TheVariants.{Positive}
use Rattle.execute.specs.Conditions.{met, jumped}
use Rattle.addressing.specs.Fetching.{coded_tree}
use Rattle.execute.specs.Instructions.{flags_of, with_done}
use Rattle.execute.specs.Plans.{Plan, still}
use Rattle.alu.specs.declared.operations.Operation.TheVariants.{Load}
use Rattle.alu.specs.Operations.{worked as done_by}
use Rattle.addressing.specs.Operands.{data_of}
use Rattle.registers.specs.declared.cpu.rows.Form.TheVariants.{Multi}
use Rattle.reading.specs.Readings.{next}
use Rattle.laws.specs.ByHand.{Comes, loaded, Goes, WorkedSettings}
use Rattle.laws.proofs.Pairs.{pair_length, pair_same}
use Rattle.laws.proofs.Registers.{row_left, pair_left}

positive : (f : Status) (e : ℕ) → f.ovf ≡ true → f.msb ≡ true → met Positive f e ≡ true
positive f e o m = rw (o, m) refl

module _ (s : State) where
  abbrev on : State
  on = with_pair s 4 ((pc_of s + 1) % 65536)

  load : (m : Meaning) → m.reads (wrap (pc_of s)) ≡ Ok 0xA1 → Comes m (record s { arp = 34; drp = 24 }) (λ p. p.after.registers ≡ (loaded s).registers)
  unfolding coded_tree
  load m r =
      let t : State = record on { arp = 34; drp = 24 } in
      let p : Plan = still 1 (with_done Load t (done_by Load (flags_of t) (data_of Multi t) (row_at on.registers 34 2))) in
      let low : register_at on.registers 34 ≡ register_at s.registers 34 = pair_left s 4 ((pc_of s + 1) % 65536) 34 refl in
      let high : register_at on.registers 35 ≡ register_at s.registers 35 = pair_left s 4 ((pc_of s + 1) % 65536) 35 refl in
      (p, rw r refl, ap (λ x. registers_with on.registers 24 (x ∷ register_at on.registers 35 ∷ [])) low ∙ ap (λ y. registers_with on.registers 24 (register_at s.registers 34 ∷ y ∷ [])) high)

  module _ (size : length s.registers ≡ 64) where
    jump : (offset to : ℕ) → jumped 258 offset ≡ to → Goes s offset to
    unfolding coded_tree
    jump offset to e m code byte =
        let t = with_pair s 4 256 in
        let passed = with_pair t 4 ((pc_of t + 2) % 65536) in
        let at : pc_of t ≡ 256 = pair_same s 4 256 size in
        let t_size : length t.registers ≡ 64 = pair_length s 4 256 ∙ size in
        let after : pc_of passed ≡ 258 = pair_same t 4 ((pc_of t + 2) % 65536) t_size ∙ ap (λ a. (a + 2) % 65536) at in
        let p : Plan = still 2 (with_pair passed 4 (jumped (pc_of passed) offset)) in
        let first : m.reads (wrap (pc_of t)) ≡ Ok 0xF0 = ap (λ a. m.reads (wrap a)) at ∙ code in
        let second : m.reads (wrap (next (pc_of t))) ≡ Ok offset = ap (λ a. m.reads (wrap (next a))) at ∙ byte in
        let goes : pc_of p.after ≡ to = pair_same passed 4 (jumped (pc_of passed) offset) (pair_length t 4 ((pc_of t + 2) % 65536) ∙ t_size) ∙ ap (λ a. jumped a offset) after ∙ e in
        (p, rw first (rw second refl), goes)

    pub by_hand : WorkedExamples → WorkedSettings s
    by_hand arithmetic = record {
      spans = refl;
      load = load;
      only = λ k h pc. row_left on.registers 24 (register_at s.registers 34 ∷ register_at s.registers 35 ∷ []) k h ∙ pair_left s 4 ((pc_of s + 1) % 65536) k pc;
      back = jump 0xFE 256 refl;
      ahead = jump 0x7F 385 refl;
      positive = positive;
      arithmetic = arithmetic;
    }
