-- PAD after SAD, and RTN after JSB.
use Rattle.std.proofs.Common.{◌≡◌, ℕ, ◌+◌, ◌-◌, ◌*◌, ◌/◌, ◌%◌, ◌<◌, ◌≤◌, Bool, true, false, ◌==◌, List, [], ◌∷◌, length, Ok, Some, None, Option, refl, ap, ◌∙◌, subst, arith}
use Rattle.std.specs.Result.{result_ok}
use Rattle.byte_rows.specs.Rows.{pair}
use Rattle.bus.specs.Meaning.{Meaning}
use Rattle.registers.specs.declared.cpu.rows.Form.{Form}
use Rattle.registers.specs.declared.cpu.rows.Form.TheVariants.{Byte}
use Rattle.registers.specs.Bits.{bit_of}
use Rattle.registers.specs.State.{State, pc_of}
use Rattle.registers.specs.Rows.{register_at, with_pair}
use Rattle.reading.specs.Trees.{done, came, map_ok}
use Rattle.reading.specs.Readings.{pair_tree, row_tree, stores_tree}
use Rattle.decode.specs.declared.instruction.Base.{Base}
use Rattle.decode.specs.declared.instruction.Base.TheVariants as base
use Rattle.decode.specs.declared.instruction.Control.TheVariants.{Binary, Decimal, SaveStatus, DecrementE, IncrementE, ClearE, Return, RestoreStatus}
use Rattle.decode.specs.declared.instruction.Instruction.{Instruction}
use Rattle.decode.specs.declared.instruction.Instruction.TheVariants.{SetArp, SetDrp, Compute, Store, Control as Alone, Call, Jump}
use Rattle.addressing.specs.Addresses.{distance_of, pointed_at, base_of, with_moved}
use Rattle.execute.specs.Instructions.{called, perform_tree}
use Rattle.execute.specs.Plans.{Plan, storing, settled}
use Rattle.execute.specs.States.{return_pointer, lowered, raised, saved, restored, bit_at}
use Rattle.laws.specs.Undoing.{given_back, Stand, Undone}
use Rattle.laws.proofs.Ends.{ended, then_ends}
use Rattle.laws.proofs.Pairs.{pair_length, pair_same}
use Rattle.laws.proofs.Registers.{pair_left}

moved_length : (b : Base) (i : Bool) (f : Form) (s : State) (ls : List ℕ) → length (with_moved b i f s ls).registers ≡ length s.registers
moved_length base.Register i f s ls = refl
moved_length base.Literal i f s ls = refl
moved_length base.Indexed i f s ls = pair_length s 2 (base_of base.Indexed i f s ls)
moved_length base.StackUp i f s ls = pair_length s s.arp ((pointed_at s + distance_of i f s.drp) % 65536)
moved_length base.StackDown i f s ls = pair_length s s.arp (base_of base.StackDown i f s ls)

-- a plan whose stores are inquired about is the plan
settled_plan : (m : Meaning) (q p : Plan) → came m (settled q) ≡ Ok p → p ≡ q
settled_plan m q p e = ended (λ p. p ≡ q) m (settled q) p (then_ends (λ p. p ≡ q) (stores_tree (length q.bytes) q.at) (λ _. done q) (λ _. refl)) e

-- what was stored comes back
pair_read : (m : Meaning) (a low high : ℕ) → Stand m a (low ∷ high ∷ []) → came m (pair_tree a) ≡ Ok (pair low high)
pair_read m a low high h = rw (h.0, h.1.0) refl

three_read : (m : Meaning) (a x y z : ℕ) → Stand m a (x ∷ y ∷ z ∷ []) → came m (row_tree 3 a) ≡ Ok (x ∷ y ∷ z ∷ [])
three_read m a x y z h = rw (h.0, h.1.0, h.1.1.0) refl

-- a return pointer that was raised and is lowered again
back_down : (r n u : ℕ) → r < 65536 → n ≤ 65536 → u ≡ (r + n) % 65536 → (u + (65536 - n)) % 65536 ≡ r
back_down r n u low few e = omega arith

bit_back : (b : Bool) (n : ℕ) → n ≡ bit_of b → (n == 1) ≡ b
bit_back true n e = ap (λ n. n == 1) e
bit_back false n e = ap (λ n. n == 1) e

bit_few : (b : Bool) → bit_of b ≤ 1
bit_few true = omega arith
bit_few false = omega arith

-- a pointer and two bits in one byte
module _ (pointer : ℕ) (b c : Bool) (low : pointer < 64) where
  abbrev packed : ℕ
  packed = pointer + 64 * bit_of b + 128 * bit_of c

  pointer_back : packed % 64 ≡ pointer
  pointer_back = omega (arith, bit_few b, bit_few c)

  low_back : bit_at packed 64 ≡ b
  low_back = bit_back b (packed / 64 % 2) (omega (arith, bit_few b, bit_few c))

  high_back : bit_at packed 128 ≡ c
  high_back = bit_back c (packed / 128 % 2) (omega (arith, bit_few b, bit_few c))

-- four bits in one byte
module _ (a b c d : Bool) where
  abbrev nibble : ℕ
  nibble = bit_of a + 2 * bit_of b + 4 * bit_of c + 8 * bit_of d

  first_back : bit_at nibble 1 ≡ a
  first_back = bit_back a (nibble / 1 % 2) (omega (arith, bit_few a, bit_few b, bit_few c, bit_few d))

  second_back : bit_at nibble 2 ≡ b
  second_back = bit_back b (nibble / 2 % 2) (omega (arith, bit_few a, bit_few b, bit_few c, bit_few d))

  third_back : bit_at nibble 4 ≡ c
  third_back = bit_back c (nibble / 4 % 2) (omega (arith, bit_few a, bit_few b, bit_few c, bit_few d))

  fourth_back : bit_at nibble 8 ≡ d
  fourth_back = bit_back d (nibble / 8 % 2) (omega (arith, bit_few a, bit_few b, bit_few c, bit_few d))

module _ (s : State) (size : length s.registers ≡ 64) (low : return_pointer s < 65536) (arp : s.arp < 64) (drp : s.drp < 64) where
  restored_saved : (t : State) → restored t (saved s) ≡ record t { arp = s.arp; drp = s.drp; status = s.status }
  restored_saved t =
      let f = s.status in
      rw (pointer_back s.arp f.cy f.ovf arp, pointer_back s.drp f.dcm f.z drp, low_back s.arp f.cy f.ovf arp, high_back s.arp f.cy f.ovf arp, low_back s.drp f.dcm f.z drp, high_back s.drp f.dcm f.z drp, first_back f.lsb f.msb f.ldz f.rdz, second_back f.lsb f.msb f.ldz f.rdz, third_back f.lsb f.msb f.ldz f.rdz, fourth_back f.lsb f.msb f.ldz f.rdz) refl

  module _ (t : State) (later : Meaning) where
    abbrev Back : Instruction → State → Type 0
    Back j u = (to : ℕ) (js : List ℕ) → result_ok (map_ok (λ q. q.after) (came later (perform_tree j t to js))) ≡ Some u

    saved_back : return_pointer t ≡ return_pointer (raised s 3) → Stand later (return_pointer s) (saved s) → Back (Alone RestoreStatus) (record (with_pair t 6 (return_pointer s)) { arp = s.arp; drp = s.drp; status = s.status })
    saved_back u h to js =
        let down : lowered t 3 ≡ return_pointer s = back_down (return_pointer s) 3 (return_pointer t) low (omega arith) (u ∙ pair_same s 6 ((return_pointer s + 3) % 65536) size) in
        rw down (rw (h.0, h.1.0, h.1.1.0) (ap Some (restored_saved (with_pair t 6 (return_pointer s)))))

    called_back : (b : Base) (ls : List ℕ) → return_pointer t ≡ return_pointer (called b s ls).after → Stand later (return_pointer s) (pc_of s % 256 ∷ pc_of s / 256 ∷ []) → Back (Alone Return) (with_pair (with_pair t 6 (return_pointer s)) 4 (pc_of s))
    called_back b ls u h to js =
        let up = (return_pointer s + 2) % 65536 in
        let moved = with_moved b false Byte s ls in
        let raised = with_pair moved 6 up in
        let to = base_of b false Byte s ls in
        let beside : return_pointer (with_pair raised 4 to) ≡ return_pointer raised = ap (λ x. x + 256 * register_at (with_pair raised 4 to).registers 7) (pair_left raised 4 to 6 refl) ∙ ap (λ y. register_at raised.registers 6 + 256 * y) (pair_left raised 4 to 7 refl) in
        let down : lowered t 2 ≡ return_pointer s = back_down (return_pointer s) 2 (return_pointer t) low (omega arith) (u ∙ beside ∙ pair_same moved 6 up (moved_length b false Byte s ls ∙ size)) in
        let pc : pair (pc_of s % 256) (pc_of s / 256) ≡ pc_of s = omega arith in
        rw down (rw (h.0, h.1.0) (ap (λ a. Some (with_pair (with_pair t 6 (return_pointer s)) 4 a)) pc))

  nothing : {A : Type 0} {j : Instruction} → ◌≡◌ {A = Option Instruction} None (Some j) → A
  nothing e = cc

  pub undone : (i : Instruction) (t : State) → Undone i s t
  unfolding Undone
  undone (Alone SaveStatus) t j before later p at to ls js d e u h =
      let q = settled_plan before (storing 1 (return_pointer s) (saved s) (raised s 3)) p e in
      let is : Alone RestoreStatus ≡ j = cc in
      subst (λ j. result_ok (map_ok (λ q. q.after) (came later (perform_tree j t to js))) ≡ given_back (Alone SaveStatus) s t) is (saved_back t later (u ∙ ap (λ p. return_pointer p.after) q) (rw q at h) to js)
  undone (Call b) t j before later p at to ls js d e u h =
      let q = settled_plan before (called b s ls) p e in
      let is : Alone Return ≡ j = cc in
      subst (λ j. result_ok (map_ok (λ q. q.after) (came later (perform_tree j t to js))) ≡ given_back (Call b) s t) is (called_back t later b ls (u ∙ ap (λ p. return_pointer p.after) q) (rw q at h) to js)
  undone (SetArp x) t j before later p at to ls js d e u h = nothing d
  undone (SetDrp x) t j before later p at to ls js d e u h = nothing d
  undone (Compute o m f) t j before later p at to ls js d e u h = nothing d
  undone (Store m f) t j before later p at to ls js d e u h = nothing d
  undone (Alone Binary) t j before later p at to ls js d e u h = nothing d
  undone (Alone Decimal) t j before later p at to ls js d e u h = nothing d
  undone (Alone DecrementE) t j before later p at to ls js d e u h = nothing d
  undone (Alone IncrementE) t j before later p at to ls js d e u h = nothing d
  undone (Alone ClearE) t j before later p at to ls js d e u h = nothing d
  undone (Alone Return) t j before later p at to ls js d e u h = nothing d
  undone (Alone RestoreStatus) t j before later p at to ls js d e u h = nothing d
  undone (Jump c) t j before later p at to ls js d e u h = nothing d
