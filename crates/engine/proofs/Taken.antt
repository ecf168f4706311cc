-- Every store of a plan that comes of an instruction is taken: the tree has inquired about it.
use Rattle.std.proofs.Common.{◌≡◌, ℕ, ◌+◌, false, List, [], ◌∷◌, length, Ok, Err, Result, refl, sym, ap, ◌∙◌, subst}
use Rattle.std.specs.Result.{result_map_both}
use Rattle.byte_rows.specs.Short.{bytes_of}
use Rattle.bus.specs.declared.refusal.BusRefusal.{BusRefusal}
use Rattle.bus.specs.Meaning.{Meaning}
use Rattle.registers.specs.declared.cpu.rows.Form.{Form}
use Rattle.registers.specs.State.{State, pc_of}
use Rattle.registers.specs.Rows.{with_pair}
use Rattle.alu.specs.declared.operations.NotDecimal.{NotDecimal as Undigit}
use Rattle.alu.specs.Operations.{Done, operated}
use Rattle.reading.specs.declared.fault.Fault.{Fault}
use Rattle.reading.specs.declared.fault.Fault.TheVariants.{NotDecimal}
use Rattle.reading.specs.declared.reads.BusReader.{BusReader}
use Rattle.reading.specs.Trees.{wrap, Tree, done, heard, came, bind, given, map_ok}
use Rattle.reading.specs.Readings.{ReadsBy, next, pair_tree, row_tree, stores_tree}
use Rattle.reading.proofs.Laws.{no_value, came_by}
use Rattle.decode.specs.declared.instruction.Mode.{Mode}
use Rattle.decode.specs.declared.instruction.Mode.TheVariants as mode
use Rattle.decode.specs.declared.instruction.Control.{Control}
use Rattle.decode.specs.declared.instruction.Control.TheVariants as control
use Rattle.decode.specs.declared.instruction.Instruction.{Instruction}
use Rattle.decode.specs.declared.instruction.Instruction.TheVariants as instruction
use Rattle.addressing.specs.Addresses.{base_of, address_tree}
use Rattle.addressing.specs.Operands.{data_of, operand_tree}
use Rattle.addressing.specs.Fetching.{Fetched, fetch_tree, passed}
use Rattle.execute.specs.declared.executed.Executed.{Executed}
use Rattle.execute.specs.Models.{plan_of}
use Rattle.execute.specs.States.{return_pointer, lowered, raised, saved, restored}
use Rattle.execute.specs.Plans.{Plan, still, returning, storing, settled}
use Rattle.execute.specs.Instructions.{flags_of, moved_by, with_done, computed, stored_memory, store_tree, called, control_tree, perform_tree, fetched_tree, plan_tree}
use Rattle.stains.specs.Stores.{upward, taken, AllTaken}
use Rattle.stains.proofs.Storing.{all_taken}

module _ (m : Meaning) where
  abbrev Taken : Plan → Type 0
  Taken p = AllTaken m (upward p.at p.bytes)

  inquired : (r : Result (Unit {0}) BusRefusal) (a : ℕ) (rest : Result Plan Fault) (p : Plan) (T : Type 0) → (rest ≡ Ok p → T) → heard a r (λ _. rest) ≡ Ok p → (r ≡ Ok tt) × T
  inquired (Ok u) a rest p T h e = (refl, h e)
  inquired (Err b) a rest p T h e = no_value e

  row_taken : (q p : Plan) (a : ℕ) (bs : List ℕ) → came m (bind (stores_tree (length bs) a) (λ _. done q)) ≡ Ok p → AllTaken m (upward a bs)
  row_taken q p a [] e = tt
  row_taken q p a (b ∷ bs) e = inquired (m.takes (wrap a)) a (came m (bind (stores_tree (length bs) (next a)) (λ _. done q))) p (AllTaken m (upward (next a) bs)) (row_taken q p (next a) bs) e

  -- one that is there at once, with what is known of its stores
  comes_to : (q p : Plan) → ◌≡◌ {A = Result Plan Fault} (Ok q) (Ok p) → Taken q → Taken p
  comes_to q p e t = let same : q ≡ p = cc in subst Taken same t

  settled_taken : (q p : Plan) → came m (settled q) ≡ Ok p → Taken p
  settled_taken q p e = comes_to q p (came_by m (λ _. done q) p (stores_tree (length q.bytes) q.at) e).2 (row_taken q p q.at q.bytes e)

  after_taken : {A : Type 0} (t : Tree A) (k : A → Tree Plan) (p : Plan) → ((x : A) → came m (k x) ≡ Ok p → Taken p) → came m (bind t k) ≡ Ok p → Taken p
  after_taken t k p h e = let x = came_by m k p t e in h x.0 x.2

  compute_taken : (f : Done → State) (l : ℕ) (p : Plan) (r : Result Done Undigit) → came m (given (result_map_both (λ d. still l (f d)) NotDecimal r)) ≡ Ok p → Taken p
  compute_taken f l p (Ok d) e = comes_to (still l (f d)) p e tt
  compute_taken f l p (Err n) e = no_value e

  store_taken : (md : Mode) (f : Form) (s : State) (after : ℕ) (ls : List ℕ) (p : Plan) → came m (store_tree md f s after ls) ≡ Ok p → Taken p
  store_taken mode.Register f s after ls p e = comes_to _ p e tt
  store_taken mode.Immediate f s after ls p e = settled_taken (stored_memory mode.Immediate f s ls after) p e
  store_taken (mode.Memory b i) f s after ls p e =
      after_taken (address_tree i (base_of b i f s ls)) (λ a. settled (stored_memory (mode.Memory b i) f s ls a)) p (λ a. settled_taken (stored_memory (mode.Memory b i) f s ls a) p) e

  control_taken : (c : Control) (s : State) (p : Plan) → came m (control_tree c s) ≡ Ok p → Taken p
  control_taken control.Binary s p e = comes_to _ p e tt
  control_taken control.Decimal s p e = comes_to _ p e tt
  control_taken control.SaveStatus s p e = settled_taken (storing 1 (return_pointer s) (saved s) (raised s 3)) p e
  control_taken control.DecrementE s p e = comes_to _ p e tt
  control_taken control.IncrementE s p e = comes_to _ p e tt
  control_taken control.ClearE s p e = comes_to _ p e tt
  control_taken control.Return s p e = after_taken (pair_tree (lowered s 2)) (λ a. done (returning 1 (with_pair (with_pair s 6 (lowered s 2)) 4 a))) p (λ a h. comes_to _ p h tt) e
  control_taken control.RestoreStatus s p e = after_taken (row_tree 3 (lowered s 3)) (λ bs. done (still 1 (restored (with_pair s 6 (lowered s 3)) bs))) p (λ bs h. comes_to _ p h tt) e

  perform_taken : (i : Instruction) (s : State) (after : ℕ) (ls : List ℕ) (p : Plan) → came m (perform_tree i s after ls) ≡ Ok p → Taken p
  perform_taken (instruction.SetArp x) s after ls p e = comes_to _ p e tt
  perform_taken (instruction.SetDrp x) s after ls p e = comes_to _ p e tt
  perform_taken (instruction.Compute o md f) s after ls p e =
      after_taken (operand_tree md f s ls) (λ x. given (computed o md f s ls x)) p (λ x. compute_taken (with_done o (moved_by md f s ls)) (1 + length ls) p (operated o (flags_of s) (data_of f s) x)) e
  perform_taken (instruction.Store md f) s after ls p e = store_taken md f s after ls p e
  perform_taken (instruction.Control c) s after ls p e = control_taken c s p e
  perform_taken (instruction.Call b) s after ls p e = settled_taken (called b s ls) p e
  perform_taken (instruction.Jump c) s after ls p e = comes_to _ p e tt

  plan_taken : (s : State) (p : Plan) → came m (plan_tree s) ≡ Ok p → Taken p
  plan_taken s p e = after_taken (fetch_tree s) (fetched_tree s) p (λ f. perform_taken f.instruction (passed s f) (next (pc_of s)) f.literal p) e

-- so all stores of an instruction that was carried out are made
pub executed_taken : {B : Type 0} (meaning : B → Meaning) (before after : BusReader B) (s left : State) (r : Result Executed Fault) (x : Executed) → ReadsBy meaning before (plan_tree s) (map_ok (plan_of left) r) after → r ≡ Ok x → taken (meaning before.bus.now).takes (upward x.at (bytes_of x.bytes)) ≡ upward x.at (bytes_of x.bytes)
executed_taken meaning before after s left r x q e =
    all_taken (meaning before.bus.now) (upward x.at (bytes_of x.bytes)) (plan_taken (meaning before.bus.now) s (plan_of left x) (sym q.read.result ∙ ap (map_ok (plan_of left)) e))
