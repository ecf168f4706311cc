-- One step or ring of an exchange beside its double: what they share is kept.
use Rattle.std.proofs.Common.{◌≡◌, ℕ, Bool, true, false, cond, List, length, Some, None, Ok, Err, Option, Result, sym, refl, ap, ◌∙◌, subst}
use Rattle.registers.specs.declared.mar.Mar.{Mar}
use Rattle.bus.specs.Meaning.{Meaning}
use Rattle.reading.specs.declared.fault.Fault.{Fault}
use Rattle.reading.specs.Trees.{came}
use Rattle.stains.specs.Stores.{Store, stored_all}
use Rattle.stains.proofs.Storing.{OffStains, Spotless, marked_length, both_stored, one_stained, cleared, takes_stay}
use Rattle.noninterference.specs.declared.refusal.StepFault.TheVariants.{Instruction}
use Rattle.noninterference.specs.Processors.{Processor}
use Rattle.noninterference.specs.Steps.{Outcome, verdict, State, planned, outside_by, ends, within_by, told_of, step_by, step, rung, ring_by}
use Rattle.noninterference.specs.Histories.{Clear, Unmarred}
use Rattle.noninterference.proofs.Local.{TakeAlike, local, tells_none}

-- stores do not change which stores are taken
takes_after : (ss ts : List Store) (m n : Meaning) → TakeAlike m n → TakeAlike (stored_all ss m) (stored_all ts n)
takes_after ss ts m n h a l = ap (λ f. f a) (takes_stay ss m) ∙ h a l ∙ sym (ap (λ f. f a) (takes_stay ts n))

takes_one : (ss : List Store) (m n : Meaning) → TakeAlike m n → TakeAlike (stored_all ss m) n
takes_one ss m n h a l = ap (λ f. f a) (takes_stay ss m) ∙ h a l

module _ (P : Processor) (exact : (c d : P.Cpu) → P.mar c d ≡ None → c ≡ d) where
  open P use {Cpu, Plan, after, stores, size, plan, jump, place, mar}

  -- the processor as it is outside visits: with a visit open, the copy from before its ring
  abbrev pub outer : Option Cpu → Cpu → Cpu
  outer None c = c
  outer (Some copy) c = copy

  -- an exchange s and its double d
  pub record Beside (s d : State P) : Type 0 where
    pub size_kept : length s.sheet ≡ 8192
    pub takes : TakeAlike s.meaning d.meaning
    pub reads : OffStains s.sheet s.meaning d.meaning
    pub cpus : outer s.visit s.cpu ≡ d.cpu
    pub unvisited : d.visit ≡ None
    pub double_size : length d.sheet ≡ 8192
    pub spotless : Spotless d.sheet

  -- a step outside visits, on both
  both_outside : (s d : State P) → Beside s d → s.cpu ≡ d.cpu → (r : Result Plan Fault) → ((outside_by P s None r).outcome ≡ (outside_by P d None r).outcome) × Beside (outside_by P s None r).after_it (outside_by P d None r).after_it
  both_outside s d b e (Ok p) = (
    ap (λ c. Ok (record { place = place c; length = size p; told = None; ended = None })) e,
    record {
      size_kept = marked_length false (stores p) s.sheet ∙ b.size_kept;
      takes = takes_after (stores p) (stores p) s.meaning d.meaning b.takes;
      reads = both_stored (stores p) s.sheet b.size_kept s.meaning d.meaning b.reads;
      cpus = refl;
      unvisited = refl;
      double_size = marked_length false (stores p) d.sheet ∙ b.double_size;
      spotless = cleared (stores p) d.sheet b.double_size b.spotless;
    },
  )
  both_outside s d b e (Err f) = (ap (λ c. Err (record { place = place c; fault = Instruction f; told = None })) e, b)

  abbrev told_in : Outcome → Option ℕ
  told_in (Ok a) = a.told
  told_in (Err r) = r.told

  clear_told : (o : Outcome) → Clear o → told_in o ≡ None
  clear_told (Ok a) h = h.0
  clear_told (Err r) h = h

  outside_told : (s : State P) (told : Option ℕ) (r : Result Plan Fault) → told_in (outside_by P s told r).outcome ≡ told
  outside_told s told (Ok p) = refl
  outside_told s told (Err f) = refl

  pub outer_step : (s d : State P) → Beside s d → s.visit ≡ None → Clear (step_by P None s).outcome → ((step_by P None s).outcome ≡ (step P d).outcome) × Beside (step_by P None s).after_it (step P d).after_it
  outer_step s d b n clear =
      let e : s.cpu ≡ d.cpu = (rw n at b.cpus) in
      let r = came s.meaning (plan s.cpu) in
      let r' = came d.meaning (plan d.cpu) in
      let none : told_of P s ≡ None = sym (outside_told s (told_of P s) r) ∙ clear_told (outside_by P s (told_of P s) r).outcome clear in
      let none' : told_of P d ≡ None = tells_none d.sheet b.spotless d.meaning (plan d.cpu) in
      let same : r ≡ r' = local s.sheet s.meaning d.meaning b.reads b.takes (plan s.cpu) none ∙ ap (λ c. came d.meaning (plan c)) e in
      let both : ((outside_by P s (told_of P s) r).outcome ≡ (outside_by P d (told_of P d) r').outcome) × Beside (outside_by P s (told_of P s) r).after_it (outside_by P d (told_of P d) r').after_it = rw (none, none', ← same) (both_outside s d b e r) in
      subst (λ v. ((outside_by P s (told_of P s) r).outcome ≡ (step_by P v d).outcome) × Beside (outside_by P s (told_of P s) r).after_it (step_by P v d).after_it) (sym b.unvisited) both

  -- stores that stain, on the one
  one_stained_beside : (s d : State P) → Beside s d → (visit : Option Cpu) (p : Plan) → outer visit (after p) ≡ d.cpu → Beside (planned P s visit true p) d
  one_stained_beside s d b visit p e = record {
    size_kept = marked_length true (stores p) s.sheet ∙ b.size_kept;
    takes = takes_one (stores p) s.meaning d.meaning b.takes;
    reads = one_stained (stores p) s.sheet b.size_kept s.meaning d.meaning b.reads;
    cpus = e;
    unvisited = b.unvisited;
    double_size = b.double_size;
    spotless = b.spotless;
  }

  -- a step within a visit: a clean end gives the copy back
  ended_outer : (t : Bool) (copy c : Cpu) → Unmarred (cond t (Some (verdict (mar copy c))) None) → outer (cond t None (Some copy)) c ≡ copy
  ended_outer false copy c h = refl
  ended_outer true copy c h = sym (exact copy c (none (mar copy c) h))
    where
      none : (o : Option Mar) → Unmarred (Some (verdict o)) → o ≡ None
      none None h = refl
      none (Some m) h = absurd h

  pub inner_step : (s d : State P) (copy : Cpu) → Beside s d → s.visit ≡ Some copy → (r : Result Plan Fault) → Clear (within_by P s copy r).outcome → Beside (within_by P s copy r).after_it d
  inner_step s d copy b v (Ok p) h = one_stained_beside s d b (cond (ends P copy p) None (Some copy)) p (ended_outer (ends P copy p) copy (after p) h.1 ∙ (rw v at b.cpus))
  inner_step s d copy b v (Err f) h = b

  -- a ring
  rung_beside : (s d : State P) → Beside s d → s.visit ≡ None → (r : Result Plan Fault) → Beside (rung P s r).after_it d
  rung_beside s d b n (Ok p) = one_stained_beside s d b (Some s.cpu) p (rw n at b.cpus)
  rung_beside s d b n (Err f) = b

  pub ring_beside : (s d : State P) → Beside s d → (even : Bool) (v : Option Cpu) → s.visit ≡ v → (n : ℕ) → Beside (ring_by P even v n s).after_it d
  ring_beside s d b false v e n = b
  ring_beside s d b true (Some copy) e n = b
  ring_beside s d b true None e n = rung_beside s d b e (came s.meaning (jump n s.cpu))
