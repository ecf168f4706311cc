-- Each instruction leaves what it does not name.
use Rattle.std.proofs.Common.{◌≡◌, ℕ, ◌+◌, ◌%◌, ◌<◌, Bool, true, false, cond, ◌&&◌, ◌||◌, List, length, Ok, Err, Some, None, Option, Result, slice_index, refl, sym, ap, ◌∙◌, subst, arith}
use Rattle.std.specs.Result.{result_and, result_map_both}
use Rattle.byte_rows.specs.Rows.{pair}
use Rattle.registers.specs.declared.cpu.rows.Form.{Form}
use Rattle.registers.specs.declared.cpu.rows.Form.TheVariants.{Byte}
use Rattle.registers.specs.State.{State, pc_of}
use Rattle.registers.specs.Rows.{register_at, span_of, with_row, with_pair}
use Rattle.alu.specs.declared.operations.NotDecimal.{NotDecimal}
use Rattle.alu.specs.declared.operations.Operation.{Operation}
use Rattle.alu.specs.Operations.{Done, checked, worked}
use Rattle.reading.specs.declared.fault.Fault.TheVariants.{NotDecimal as NotDecimalFault}
use Rattle.reading.specs.Trees.{Tree, done, came, bind, given}
use Rattle.reading.specs.Readings.{next, row_tree, stores_tree}
use Rattle.reading.proofs.Laws.{no_value}
use Rattle.decode.specs.declared.instruction.Base.{Base}
use Rattle.decode.specs.declared.instruction.Base.TheVariants as base
use Rattle.decode.specs.declared.instruction.Mode.{Mode}
use Rattle.decode.specs.declared.instruction.Mode.TheVariants.{Register, Immediate, Memory}
use Rattle.decode.specs.declared.instruction.Control.{Control}
use Rattle.decode.specs.declared.instruction.Control.TheVariants.{Binary, Decimal, SaveStatus, DecrementE, IncrementE, ClearE, Return, RestoreStatus}
use Rattle.decode.specs.declared.instruction.Instruction.{Instruction}
use Rattle.decode.specs.declared.instruction.Instruction.TheVariants.{SetArp, SetDrp, Compute, Store, Control as Alone, Call, Jump}
use Rattle.decode.specs.Codes.{decoded}
use Rattle.addressing.specs.Addresses.{distance_of, pointed_at, base_of, with_moved, address_tree}
use Rattle.addressing.specs.Fetching.{Fetched, coded_tree, decoded_tree, literal_tree, passed}
use Rattle.addressing.specs.Lengths.{literal_count}
use Rattle.addressing.specs.Operands.{data_of, operand_tree}
use Rattle.execute.specs.Conditions.{met, jumped}
use Rattle.execute.specs.Instructions.{flags_of, keeps, with_done, with_seen, moved_by, computed, stored_memory, called, perform_tree, fetched_tree}
use Rattle.execute.specs.Plans.{Plan, still, settled}
use Rattle.execute.specs.States.{return_pointer, lowered, raised}
use Rattle.laws.specs.declared.part.Part.{Part}
use Rattle.laws.specs.declared.part.Part.TheVariants as part
use Rattle.laws.specs.Parts.{in_row, base_moves, mode_moves, names, changes_arp, changes_drp, changes_mode, changes_conditions, changes_e, may_change, Agree, Leaves}
use Rattle.laws.proofs.Ends.{Ends, ended, bind_ends, then_ends, given_ends, map_ends}
use Rattle.laws.proofs.Registers.{row_length, row_left, pair_left}
use Rattle.laws.proofs.Worked.{WorkedOn, worked_on}

-- Both states agree in what the instruction does not name.
pub record Left (i : Instruction) (s t : State) : Type 0 where
  pub registers : (k : ℕ) → in_row 4 2 k ≡ false → names i s.arp s.drp k ≡ false → register_at t.registers k ≡ register_at s.registers k
  pub arp : changes_arp i ≡ false → t.arp ≡ s.arp
  pub drp : changes_drp i ≡ false → t.drp ≡ s.drp
  pub mode : changes_mode i ≡ false → t.status.dcm ≡ s.status.dcm
  pub conditions : changes_conditions i ≡ false → record t.status { dcm = s.status.dcm } ≡ s.status
  pub e : s.e < 16 → changes_e i s.status.dcm ≡ false → t.e ≡ s.e

either : (a b : Bool) → (a || b) ≡ false → (a ≡ false) × (b ≡ false)
either true b h = cc
either false b h = (refl, h)

-- the pair that is moved
base_left : (b : Base) (i : Bool) (f : Form) (s : State) (ls : List ℕ) (k : ℕ) → base_moves b s.arp k ≡ false → register_at (with_moved b i f s ls).registers k ≡ register_at s.registers k
base_left base.Register i f s ls k h = refl
base_left base.Literal i f s ls k h = refl
base_left base.Indexed i f s ls k h = pair_left s 2 (base_of base.Indexed i f s ls) k h
base_left base.StackUp i f s ls k h = pair_left s s.arp ((pointed_at s + distance_of i f s.drp) % 65536) k h
base_left base.StackDown i f s ls k h = pair_left s s.arp (base_of base.StackDown i f s ls) k h

base_alone : (b : Base) (i : Bool) (f : Form) (s : State) (ls : List ℕ) → with_moved b i f s ls ≡ record s { registers = (with_moved b i f s ls).registers }
base_alone base.Register i f s ls = refl
base_alone base.Literal i f s ls = refl
base_alone base.Indexed i f s ls = refl
base_alone base.StackUp i f s ls = refl
base_alone base.StackDown i f s ls = refl

mode_left : (m : Option Mode) (f : Form) (s : State) (ls : List ℕ) (k : ℕ) → mode_moves m s.arp k ≡ false → register_at (moved_by m f s ls).registers k ≡ register_at s.registers k
mode_left None f s ls k h = refl
mode_left (Some Register) f s ls k h = refl
mode_left (Some Immediate) f s ls k h = refl
mode_left (Some (Memory b i)) f s ls k h = base_left b i f s ls k h

mode_alone : (m : Option Mode) (f : Form) (s : State) (ls : List ℕ) → moved_by m f s ls ≡ record s { registers = (moved_by m f s ls).registers }
mode_alone None f s ls = refl
mode_alone (Some Register) f s ls = refl
mode_alone (Some Immediate) f s ls = refl
mode_alone (Some (Memory b i)) f s ls = base_alone b i f s ls

-- the data, where they are kept
module _ (t : State) (row : List ℕ) where
  abbrev with_data : Bool → State
  with_data b = cond b (with_row t t.drp row) t

  row_kept : (b : Bool) (k : ℕ) → (b && in_row t.drp (length row) k) ≡ false → register_at (with_data b).registers k ≡ register_at t.registers k
  row_kept true k h = row_left t.registers t.drp row k h
  row_kept false k h = refl

  row_alone : (b : Bool) → with_data b ≡ record t { registers = (with_data b).registers }
  row_alone true = refl
  row_alone false = refl

-- a computation, over a state in which the pair has been moved
module _ (o : Operation) (m : Option Mode) (f : Form) (s : State) (ls : List ℕ) where
  abbrev moved : State
  moved = moved_by m f s ls

  abbrev xs : List ℕ
  xs = data_of f s

  alone : moved ≡ record s { registers = moved.registers }
  alone = mode_alone m f s ls

  done_left : (d : Done) → WorkedOn o (flags_of s) xs d → Left (Compute o m f) s (with_done o moved d)
  done_left d w =
      let size : length d.row ≡ span_of f s.drp = w.size ∙ row_length s.registers s.drp (span_of f s.drp) in
      let kept = with_data moved d.row (keeps o) in
      let kept_alone : kept ≡ record moved { registers = kept.registers } = row_alone moved d.row (keeps o) in
      record {
        registers = λ k pc h.
            let p = either (keeps o && in_row s.drp (span_of f s.drp) k) (mode_moves m s.arp k) h in
            let here : (keeps o && in_row moved.drp (length d.row) k) ≡ false = ap (λ n. keeps o && in_row moved.drp n k) size ∙ ap (λ t. keeps o && in_row t.drp (span_of f s.drp) k) alone ∙ p.0 in
            row_kept moved d.row (keeps o) k here ∙ mode_left m f s ls k p.1;
        arp = λ _. ap (λ t. t.arp) (kept_alone) ∙ ap (λ t. t.arp) alone;
        drp = λ _. ap (λ t. t.drp) (kept_alone) ∙ ap (λ t. t.drp) alone;
        mode = λ _. w.mode;
        conditions = λ h. cc;
        e = λ low h. let same = w.e h in omega arith;
      }

  finished : (c : Result (Unit {0}) NotDecimal) (d : Done) (g : Done → Plan) (p : Plan) → result_map_both g NotDecimalFault (result_and c (Ok d)) ≡ Ok p → p ≡ g d
  finished (Ok u) d g p e = cc
  finished (Err n) d g p e = no_value e

  compute_left : (operand : List ℕ) (p : Plan) → computed o m f s ls operand ≡ Ok p → Left (Compute o m f) s p.after
  compute_left operand p e =
      let d = worked o (flags_of s) xs operand in
      let q = finished (checked o s.status.dcm xs operand) d (λ d. still (1 + length ls) (with_done o moved d)) p e in
      subst (λ p. Left (Compute o m f) s p.after) (sym q) (done_left d (worked_on o (flags_of s) xs operand))

-- a store
store_left : (i : Instruction) (s t : State) (row : List ℕ) → changes_mode i ≡ false → changes_conditions i ≡ true → t ≡ record s { registers = t.registers } → ((k : ℕ) → names i s.arp s.drp k ≡ false → register_at t.registers k ≡ register_at s.registers k) → Left i s (with_seen t row)
store_left i s t row h c alone left = record {
  registers = λ k pc n. left k n;
  arp = λ _. ap (λ t. t.arp) alone;
  drp = λ _. ap (λ t. t.drp) alone;
  mode = λ _. ap (λ t. t.status.dcm) alone;
  conditions = λ e. cc;
  e = λ low _. ap (λ t. t.e) alone;
}

-- what writes registers alone
registers_alone : (i : Instruction) (s t : State) → t ≡ record s { registers = t.registers } → ((k : ℕ) → in_row 4 2 k ≡ false → names i s.arp s.drp k ≡ false → register_at t.registers k ≡ register_at s.registers k) → Left i s t
registers_alone i s t alone left = record {
  registers = left;
  arp = λ _. ap (λ t. t.arp) alone;
  drp = λ _. ap (λ t. t.drp) alone;
  mode = λ _. ap (λ t. t.status.dcm) alone;
  conditions = λ _. ap (λ t. record t.status { dcm = s.status.dcm }) alone;
  e = λ low _. ap (λ t. t.e) alone;
}

settled_left : (i : Instruction) (s : State) (p : Plan) → Left i s p.after → Ends (λ p. Left i s p.after) (settled p)
settled_left i s p l = then_ends (λ p. Left i s p.after) (stores_tree (length p.bytes) p.at) (λ _. done p) (λ _. l)

jump_left : (b : Bool) (s : State) (v k : ℕ) → in_row 4 2 k ≡ false → register_at (cond b (with_pair s 4 v) s).registers k ≡ register_at s.registers k
jump_left true s v k h = pair_left s 4 v k h
jump_left false s v k h = refl

jump_alone : (b : Bool) (s : State) (v : ℕ) → cond b (with_pair s 4 v) s ≡ record s { registers = (cond b (with_pair s 4 v) s).registers }
jump_alone true s v = refl
jump_alone false s v = refl

alone_left : (c : Control) (s : State) (after : ℕ) (ls : List ℕ) → Ends (λ p. Left (Alone c) s p.after) (perform_tree (Alone c) s after ls)
alone_left Binary s after ls = record { registers = λ k pc h. refl; arp = λ _. refl; drp = λ _. refl; mode = λ h. cc; conditions = λ _. refl; e = λ low _. refl }
alone_left Decimal s after ls = record { registers = λ k pc h. refl; arp = λ _. refl; drp = λ _. refl; mode = λ h. cc; conditions = λ _. refl; e = λ low _. refl }
alone_left SaveStatus s after ls = registers_alone (Alone SaveStatus) s (raised s 3) refl (λ k pc h. pair_left s 6 ((return_pointer s + 3) % 65536) k h)
alone_left DecrementE s after ls = record { registers = λ k pc h. refl; arp = λ _. refl; drp = λ _. refl; mode = λ _. refl; conditions = λ _. refl; e = λ low h. cc }
alone_left IncrementE s after ls = record { registers = λ k pc h. refl; arp = λ _. refl; drp = λ _. refl; mode = λ _. refl; conditions = λ _. refl; e = λ low h. cc }
alone_left ClearE s after ls = record { registers = λ k pc h. refl; arp = λ _. refl; drp = λ _. refl; mode = λ _. refl; conditions = λ _. refl; e = λ low h. cc }
alone_left Return s after ls = λ low high.
    let down = with_pair s 6 (lowered s 2) in
    let to = pair low high in
    registers_alone (Alone Return) s (with_pair down 4 to) refl (λ k pc h. pair_left down 4 to k pc ∙ pair_left s 6 (lowered s 2) k h)
alone_left RestoreStatus s after ls = λ a b c. record {
  registers = λ k pc h. pair_left s 6 (lowered s 3) k h;
  arp = λ h. cc;
  drp = λ h. cc;
  mode = λ h. cc;
  conditions = λ h. cc;
  e = λ low _. refl;
}

pub performed_left : (i : Instruction) (s : State) (after : ℕ) (ls : List ℕ) → Ends (λ p. Left i s p.after) (perform_tree i s after ls)
performed_left (SetArp x) s after ls = record { registers = λ k pc h. refl; arp = λ h. cc; drp = λ _. refl; mode = λ _. refl; conditions = λ _. refl; e = λ low _. refl }
performed_left (SetDrp x) s after ls = record { registers = λ k pc h. refl; arp = λ _. refl; drp = λ h. cc; mode = λ _. refl; conditions = λ _. refl; e = λ low _. refl }
performed_left (Compute o m f) s after ls = then_ends (λ p. Left (Compute o m f) s p.after) (operand_tree m f s ls) (λ operand. given (computed o m f s ls operand)) (λ operand. given_ends (λ p. Left (Compute o m f) s p.after) (computed o m f s ls operand) (compute_left o m f s ls operand))
performed_left (Store Register f) s after ls =
    let row = data_of f s in
    let size : length row ≡ span_of f s.drp = row_length s.registers s.drp (span_of f s.drp) in
    store_left (Store Register f) s (with_row s s.arp row) row refl refl refl (λ k h. row_left s.registers s.arp row k (ap (λ n. in_row s.arp n k) size ∙ h))
performed_left (Store Immediate f) s after ls = settled_left (Store Immediate f) s (stored_memory Immediate f s ls after) (store_left (Store Immediate f) s s (data_of f s) refl refl refl (λ k h. refl))
performed_left (Store (Memory b i) f) s after ls =
    let left = store_left (Store (Memory b i) f) s (with_moved b i f s ls) (data_of f s) refl refl (base_alone b i f s ls) (base_left b i f s ls) in
    then_ends (λ p. Left (Store (Memory b i) f) s p.after) (address_tree i (base_of b i f s ls)) (λ a. settled (stored_memory (Memory b i) f s ls a)) (λ a. settled_left (Store (Memory b i) f) s (stored_memory (Memory b i) f s ls a) left)
performed_left (Alone c) s after ls = alone_left c s after ls
performed_left (Call b) s after ls =
    let moved = with_moved b false Byte s ls in
    let up = (return_pointer s + 2) % 65536 in
    let raised = with_pair moved 6 up in
    let to = base_of b false Byte s ls in
    let onto : State → State = λ t. record t { registers = (with_pair raised 4 to).registers } in
    let alone : with_pair raised 4 to ≡ onto s = ap onto (base_alone b false Byte s ls) in
    settled_left (Call b) s (called b s ls) (registers_alone (Call b) s (with_pair raised 4 to) alone (λ k pc h.
    let p = either (in_row 6 2 k) (base_moves b s.arp k) h in
    pair_left raised 4 to k pc ∙ pair_left moved 6 up k p.0 ∙ base_left b false Byte s ls k p.1))
performed_left (Jump c) s after ls =
    let b = met c s.status s.e in
    let to = jumped (pc_of s) (slice_index ls 0) in
    registers_alone (Jump c) s (cond b (with_pair s 4 to) s) (jump_alone b s to) (λ k pc h. jump_left b s to k pc)

-- the instruction fetched, and passed by the program counter
agreed : (i : Instruction) (s : State) (v : ℕ) (t : State) (x : Part) → s.e < 16 → may_change i s x ≡ false → Left i (with_pair s 4 v) t → Agree x s t
agreed i s v t (part.Register k) low h l =
    let p = either (in_row 4 2 k) (names i s.arp s.drp k) h in
    l.registers k p.0 p.1 ∙ pair_left s 4 v k p.0
agreed i s v t part.Arp low h l = l.arp h
agreed i s v t part.Drp low h l = l.drp h
agreed i s v t part.Mode low h l = l.mode h
agreed i s v t part.Conditions low h l = l.conditions h
agreed i s v t part.E low h l = l.e low h

coded : (i : Instruction) (code : ℕ) (s : State) → decoded code ≡ Some i → coded_tree code s ≡ literal_tree i s
unfolding coded_tree
coded i code s h = ap (λ d. decoded_tree d code s) h

pub leaves : (i : Instruction) (s : State) (x : Part) → s.e < 16 → may_change i s x ≡ false → Leaves i s x
unfolding Leaves
leaves i s x low h m code p r d e =
    let Agrees : Plan → Type 0 = λ p. Agree x s p.after in
    let literal : Tree Fetched = literal_tree i s in
    let read : came m (bind (coded_tree code s) (fetched_tree s)) ≡ Ok p = rw r at e in
    let came_from : came m (bind literal (fetched_tree s)) ≡ Ok p = ap (λ t. came m (bind t (fetched_tree s))) (sym (coded i code s d)) ∙ read in
    let of_i : Ends (λ f. f.instruction ≡ i) literal = then_ends (λ f. f.instruction ≡ i) (row_tree (literal_count i s.drp) (next (pc_of s))) (λ ls. done (record { instruction = i; literal = ls })) (λ ls. refl) in
    let on : (f : Fetched) → f.instruction ≡ i → Ends Agrees (fetched_tree s f) = λ f q. map_ends (λ p. Left i (passed s f) p.after) Agrees (λ p l. agreed i s _ p.after x low h l) (fetched_tree s f) (rw (sym q) (performed_left f.instruction (passed s f) (next (pc_of s)) f.literal)) in
    ended Agrees m (bind literal (fetched_tree s)) p (bind_ends (λ f. f.instruction ≡ i) Agrees (fetched_tree s) on literal of_i) came_from
