-- Whole histories: the stains beside the last stores.
use Rattle.std.proofs.Common.{◌≡◌, ℕ, ◌%◌, ◌<◌, Bool, true, false, cond, eqb, List, ◌∷◌, length, Some, None, Ok, Err, Option, Result, refl, ap, ◌∙◌}
use Rattle.bus.specs.Meaning.{Meaning}
use Rattle.reading.specs.declared.fault.Fault.{Fault}
use Rattle.reading.specs.Sheets.{stained}
use Rattle.reading.specs.Trees.{came}
use Rattle.stains.specs.Stores.{marked_all, stores_to}
use Rattle.stains.proofs.Storing.{marked_length, marked_is, blank_size, blank_spotless}
use Rattle.noninterference.specs.Processors.{Processor}
use Rattle.noninterference.specs.Steps.{State, carried_out, told_of, step_by, ring_by, ring}
use Rattle.noninterference.specs.Histories.{Event, ringing, stores_of, by_handler, last_by_handler, Call, a_step, a_ring, Exchange, begun, step_event, called, called_all}
use Rattle.noninterference.specs.Theorem.{StainsTellTheLastStore, SheetsKeepTheirSize}
use Rattle.noninterference.proofs.Kept.{calls_keep}

module _ (P : Processor) where
  open P use {Cpu, Plan, plan, jump}

  -- a step's event, by whether a visit was open
  abbrev stepped : Option Cpu → Exchange P → Exchange P
  stepped v x = record { state = (step_by P v x.state).after_it; history = step_event P v (step_by P v x.state) ∷ x.history }

  record Stained (x : Exchange P) : Type 0 where
    size : length x.state.sheet ≡ 8192
    tell : (a : ℕ) → a < 65536 → stained x.state.sheet a ≡ last_by_handler x.history a

  by_cases : (b : Bool) (h l s : Bool) → s ≡ l → cond b h s ≡ cond b h l
  by_cases true h l s e = refl
  by_cases false h l s e = e

  event_stained : (x : Exchange P) → Stained x → (e : Event) (t : State P) → t.sheet ≡ marked_all (by_handler e) (stores_of e) x.state.sheet → Stained (record { state = t; history = e ∷ x.history })
  event_stained x k e t q = record {
    size = ap length q ∙ marked_length (by_handler e) (stores_of e) x.state.sheet ∙ k.size;
    tell = λ a l. ap (λ s. stained s a) q ∙ marked_is (by_handler e) (stores_of e) x.state.sheet k.size a l ∙ by_cases (stores_to (stores_of e) a) (by_handler e) (last_by_handler x.history a) (stained x.state.sheet a) (k.tell a l);
  }

  marks : {A : Type 0} (s : State P) (told : Option ℕ) (answer : Plan → A) (visit : Plan → Option Cpu) (stain : Bool) (r : Result Plan Fault) → (carried_out P s told answer visit stain r).after_it.sheet ≡ marked_all stain (carried_out P s told answer visit stain r).stores_made s.sheet
  marks s told answer visit stain (Ok p) = refl
  marks s told answer visit stain (Err f) = refl

  ring_marks : (even : Bool) (v : Option Cpu) (n : ℕ) (s : State P) → (ring_by P even v n s).after_it.sheet ≡ marked_all true (ring_by P even v n s).stores_made s.sheet
  ring_marks false v n s = refl
  ring_marks true (Some copy) n s = refl
  ring_marks true None n s = marks s None (λ p. tt) (λ p. Some s.cpu) true (came s.meaning (jump n s.cpu))

  step_stained : (x : Exchange P) → Stained x → Stained (called P a_step x)
  step_stained x k = go x.state.visit
    where
      go : (v : Option Cpu) → Stained (stepped v x)
      go None = event_stained x k (step_event P None (step_by P None x.state)) (step_by P None x.state).after_it (marks x.state (told_of P x.state) _ _ false (came x.state.meaning (plan x.state.cpu)))
      go (Some copy) = event_stained x k (step_event P (Some copy) (step_by P (Some copy) x.state)) (step_by P (Some copy) x.state).after_it (marks x.state None _ _ true (came x.state.meaning (plan x.state.cpu)))

  ring_stained : (v : ℕ) (x : Exchange P) → Stained x → Stained (called P (a_ring v) x)
  ring_stained v x k = event_stained x k (ringing (ring P v x.state).outcome (ring P v x.state).stores_made) (ring P v x.state).after_it (ring_marks (eqb (v % 2) 0) x.state.visit v x.state)

  all_stained : (c : Cpu) (m : Meaning) (calls : List Call) → Stained (called_all P calls (begun P c m))
  all_stained c m calls = calls_keep P Stained step_stained ring_stained calls (begun P c m) (record { size = blank_size; tell = blank_spotless })

  pub stains_tell : StainsTellTheLastStore P
  stains_tell c m calls a l = (all_stained c m calls).tell a l

  pub sheets_keep : SheetsKeepTheirSize P
  sheets_keep c m calls = (all_stained c m calls).size
