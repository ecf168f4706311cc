-- Whole histories: the exchange beside its double.
use Rattle.std.proofs.Common.{◌≡◌, ℕ, ◌+◌, ◌%◌, eqb, List, [], ◌∷◌, length, Some, None, Ok, Err, Option, Result, sym, refl, ap, ◌∙◌, subst, ap₂, arith}
use Rattle.bus.specs.Meaning.{Meaning}
use Rattle.reading.specs.declared.fault.Fault.{Fault}
use Rattle.reading.specs.Trees.{came}
use Rattle.stains.proofs.Storing.{blank_size, blank_spotless}
use Rattle.noninterference.specs.Processors.{Processor}
use Rattle.noninterference.specs.Steps.{Outcome, State, outside_by, told_of, step_by, step}
use Rattle.noninterference.specs.Histories.{Event, outside, within, ringing, answers_with, answers, Clear, AllClear, a_step, a_ring, Unrung, purged, Exchange, begun, step_event, called, called_all}
use Rattle.noninterference.specs.Theorem.{SameMeaning, Alike, CleanHandlersLeaveNoTrace, EveryExchangeHasADouble}
use Rattle.noninterference.proofs.Beside.{Beside, outer_step, inner_step, ring_beside}
use Rattle.noninterference.proofs.Kept.{calls_keep, unrung_keep}

module _ (P : Processor) (exact : (c d : P.Cpu) → P.mar c d ≡ None → c ≡ d) where
  open P use {Cpu, Plan, plan, jump}

  -- the double after as many steps as the list has
  abbrev steps : List Outcome → Exchange P → Exchange P
  steps [] y = y
  steps (o ∷ os) y = called P a_step (steps os y)

  -- a step with no visit open is a step outside visits, and leaves none open
  one_answer : (x : Exchange P) → x.state.visit ≡ None → answers (called P a_step x).history ≡ (step P x.state).outcome ∷ answers x.history
  one_answer x n = ap (λ v. answers_with (step_event P v (step P x.state)) (answers x.history)) n

  outside_unvisited : (s : State P) → s.visit ≡ None → (told : Option ℕ) (r : Result Plan Fault) → (outside_by P s told r).after_it.visit ≡ None
  outside_unvisited s n told (Ok p) = refl
  outside_unvisited s n told (Err f) = n

  stays_unvisited : (x : Exchange P) → x.state.visit ≡ None → (called P a_step x).state.visit ≡ None
  stays_unvisited x n = subst (λ v. (step_by P v x.state).after_it.visit ≡ None) (sym n) (outside_unvisited x.state n (told_of P x.state) (came x.state.meaning (plan x.state.cpu)))

  record Follows (x y : Exchange P) : Type 0 where
    beside : Beside P exact x.state y.state
    same : answers x.history ≡ answers y.history

  -- a step's event, by whether a visit was open
  abbrev stepped : Option Cpu → Exchange P → Exchange P
  stepped v x = record { state = (step_by P v x.state).after_it; history = step_event P v (step_by P v x.state) ∷ x.history }

  module _ (y : Exchange P) where
    -- the exchange x beside the double that began as y
    abbrev Shadowed : Exchange P → Type 0
    Shadowed x = AllClear x.history → Follows x (steps (answers x.history) y)

    outside_follows : (x z : Exchange P) → Follows x z → x.state.visit ≡ None → Clear (step_by P None x.state).outcome → Follows (stepped None x) (called P a_step z)
    outside_follows x z f n clear =
        let o = outer_step P exact x.state z.state f.beside n clear in
        record {
          beside = o.1;
          same = ap₂ (λ a l. a ∷ l) o.0 f.same ∙ sym (one_answer z f.beside.unvisited);
        }

    step_shadowed : (x : Exchange P) → Shadowed x → Shadowed (called P a_step x)
    step_shadowed x b = go x.state.visit refl
      where
        go : (v : Option Cpu) → x.state.visit ≡ v → Shadowed (stepped v x)
        go None e q = outside_follows x (steps (answers x.history) y) (b q.1) e q.0
        go (Some copy) e q =
            let f = b q.1 in
            record {
              beside = inner_step P exact x.state (steps (answers x.history) y).state copy f.beside e (came x.state.meaning (plan x.state.cpu)) q.0;
              same = f.same;
            }

    ring_shadowed : (v : ℕ) (x : Exchange P) → Shadowed x → Shadowed (called P (a_ring v) x)
    ring_shadowed v x b q =
        let f = b q.1 in
        record {
          beside = ring_beside P exact x.state (steps (answers x.history) y).state f.beside (eqb (v % 2) 0) x.state.visit refl v;
          same = f.same;
        }

    -- an exchange that began as y and was never rung is y after as many steps as it answered
    record Lined (x : Exchange P) : Type 0 where
      is : x ≡ steps (answers x.history) y
      unvisited : x.state.visit ≡ None

    step_lined : (x : Exchange P) → Lined x → Lined (called P a_step x)
    step_lined x l = record {
      is = ap (called P a_step) l.is ∙ ap (λ os. steps os y) (sym (one_answer x l.unvisited));
      unvisited = stays_unvisited x l.unvisited;
    }

    same_count : (os qs : List Outcome) → length os ≡ length qs → steps os y ≡ steps qs y
    same_count [] [] e = refl
    same_count [] (q ∷ qs) e = absurd (omega arith)
    same_count (o ∷ os) [] e = absurd (omega arith)
    same_count (o ∷ os) (q ∷ qs) e = ap (called P a_step) (same_count os qs (omega arith))

  begins : (c : Cpu) (m n : Meaning) → SameMeaning m n → Shadowed (begun P c n) (begun P c m)
  begins c m n e q = record {
    beside = record {
      size_kept = blank_size;
      takes = λ a h. (e a h).1;
      reads = λ a h u. (e a h).0;
      cpus = refl;
      unvisited = refl;
      double_size = blank_size;
      spotless = blank_spotless;
    };
    same = refl;
  }

  alike : (x y : Exchange P) → Follows x y → Alike P x y
  alike x y f = record {
    answered = f.same;
    states = record { meanings = λ a h u. (f.beside.reads a h u, f.beside.takes a h); processors = λ n. rw n at f.beside.cpus };
  }

  pub leave_no_trace : CleanHandlersLeaveNoTrace P
  leave_no_trace c m calls y q d =
      let x = called_all P calls (begun P c m) in
      let y₀ = begun P c d.bus in
      let shadowed : Shadowed y₀ x = calls_keep P (Shadowed y₀) (step_shadowed y₀) (ring_shadowed y₀) calls (begun P c m) (begins c m d.bus d.equal) in
      let lined : Lined y₀ y = subst (Lined y₀) (sym d.went) (unrung_keep P (Lined y₀) (step_lined y₀) d.calls d.unrung y₀ (record { is = refl; unvisited = refl })) in
      let e : steps (answers x.history) y₀ ≡ y = sym (same_count y₀ (answers y.history) (answers x.history) d.steps) ∙ sym lined.is in
      alike x y (subst (Follows x) e (shadowed q))

  -- the double
  purged_unrung : (es : List Event) → Unrung (purged es)
  purged_unrung [] = tt
  purged_unrung (outside o ss ∷ es) = purged_unrung es
  purged_unrung (within o ss ∷ es) = purged_unrung es
  purged_unrung (ringing o ss ∷ es) = purged_unrung es

  as_many : (es : List Event) (z : Exchange P) → z.state.visit ≡ None → length (answers (called_all P (purged es) z).history) ≡ length (answers es) + length (answers z.history)
  as_many [] z n = omega arith
  as_many (outside o ss ∷ es) z n = omega (arith, as_many es (called P a_step z) (stays_unvisited z n), ap length (one_answer z n))
  as_many (within o ss ∷ es) z n = as_many es z n
  as_many (ringing o ss ∷ es) z n = as_many es z n

  pub has_a_double : EveryExchangeHasADouble P
  has_a_double c m calls =
      let es = (called_all P calls (begun P c m)).history in
      record {
        bus = m;
        equal = λ a h. (refl, refl);
        calls = purged es;
        unrung = purged_unrung es;
        went = refl;
        steps = omega (arith, as_many es (begun P c m) refl);
      }
