-- An instruction whose code was read: what follows its code is fetched, and it goes on or stops.
use Rattle.std.proofs.Common.{◌≡◌, ℕ, ◌+◌, ◌%◌, [], Some, None, Ok, Err, Result, refl, ap, sym}
use Rattle.byte_rows.specs.declared.row.Row.{Row}
use Rattle.byte_rows.specs.Short.{bytes_of}
use Rattle.bus.specs.Meaning.{Meaning}
use Rattle.registers.specs.State.{State, pc_of}
use Rattle.registers.specs.Rows.{with_pair}
use Rattle.decode.specs.declared.instruction.Instruction.{Instruction}
use Rattle.decode.specs.Codes.{decoded}
use Rattle.reading.specs.declared.fault.Fault.{Fault}
use Rattle.reading.specs.declared.fault.Fault.TheVariants.{Illegal}
use Rattle.reading.specs.declared.reads.BusReader.{BusReader}
use Rattle.reading.specs.Readings.{ReadsBy, next}
use Rattle.reading.specs.Trees.{done, stop, bind}
use Rattle.reading.proofs.Laws.{then, stops, at_once}
use Rattle.addressing.specs.Fetching.{literal_tree, coded_tree, decoded_tree, passed}
use Rattle.addressing.specs.Models.{with_literal}
use Rattle.execute.specs.Plans.{Plan}
use Rattle.execute.specs.Instructions.{perform_tree, fetched_tree, coded_by}

module _ {B : Type 0} (meaning : B → Meaning) (i j : Instruction) (s t : State) where
  pub went_on : (row : Row) (z : Result Plan Fault) (before between after : BusReader B) → i ≡ j → t ≡ passed s (with_literal j row) → ReadsBy meaning before (literal_tree j s) (Ok (with_literal j row)) between → ReadsBy meaning between (perform_tree j t (next (pc_of s)) (bytes_of row)) z after → ReadsBy meaning before (coded_by i s) z after
  unfolding coded_by
  went_on row z before between after e m p q = rw e (then meaning (literal_tree j s) (fetched_tree s) (with_literal j row) (Ok (with_literal j row)) z before between after refl p (rw (sym m) q))

  pub went_at_once : (row : Row) (p : Plan) (z : Result Plan Fault) (before after : BusReader B) → i ≡ j → t ≡ passed s (with_literal j row) → ReadsBy meaning before (literal_tree j s) (Ok (with_literal j row)) after → perform_tree j t (next (pc_of s)) (bytes_of row) ≡ done p → z ≡ Ok p → ReadsBy meaning before (coded_by i s) z after
  went_at_once row p z before after e m l d k = went_on row z before after after e m l (rw (d, k) (at_once meaning (Ok p) after))

  -- where nothing follows the code
  pub alone_on : (z : Result Plan Fault) (before after : BusReader B) → i ≡ j → literal_tree j s ≡ done (record { instruction = j; literal = [] }) → t ≡ with_pair s 4 ((pc_of s + 1) % 65536) → ReadsBy meaning before (perform_tree j t (next (pc_of s)) []) z after → ReadsBy meaning before (coded_by i s) z after
  unfolding coded_by
  alone_on z before after e l m q = rw (e, l, sym m) q

  pub alone_at_once : (p : Plan) (z : Result Plan Fault) (reader : BusReader B) → i ≡ j → literal_tree j s ≡ done (record { instruction = j; literal = [] }) → t ≡ with_pair s 4 ((pc_of s + 1) % 65536) → perform_tree j t (next (pc_of s)) [] ≡ done p → z ≡ Ok p → ReadsBy meaning reader (coded_by i s) z reader
  alone_at_once p z reader e l m d k = alone_on z reader reader e l m (rw (d, k) (at_once meaning (Ok p) reader))

pub stopped : {B : Type 0} (meaning : B → Meaning) (i j : Instruction) (s : State) (f : Fault) (z : Result Plan Fault) (before after : BusReader B) → i ≡ j → z ≡ Err f → ReadsBy meaning before (literal_tree j s) (Err f) after → ReadsBy meaning before (coded_by i s) z after
unfolding coded_by
stopped meaning i j s f z before after e h p = rw e (stops meaning (literal_tree j s) (fetched_tree s) f (Err f) z before after refl h p)

module _ (code : ℕ) (s : State) where
  pub of_code : (i : Instruction) → Some i ≡ decoded code → bind (coded_tree code s) (fetched_tree s) ≡ coded_by i s
  unfolding coded_tree coded_by
  of_code i e = ap (λ d. bind (decoded_tree d code s) (fetched_tree s)) (sym e)

  pub of_no_code : None ≡ decoded code → bind (coded_tree code s) (fetched_tree s) ≡ stop (Illegal code)
  unfolding coded_tree
  of_no_code e = ap (λ d. bind (decoded_tree d code s) (fetched_tree s)) (sym e)
