-- What each step and each ring keeps, every list of calls keeps.
use Rattle.std.proofs.Common.{ℕ, zero, suc, Bool, true, false, cond, List, [], ◌∷◌}
use Rattle.noninterference.specs.declared.answer.Answer.{Answer}
use Rattle.noninterference.specs.Processors.{Processor}
use Rattle.noninterference.specs.Steps.{Worked, step, step_letter, stops, tries}
use Rattle.noninterference.specs.Histories.{Call, a_step, a_run, a_ring, Unrung, Exchange, recorded_all, called, called_all}

module _ (P : Processor) (I : Exchange P → Type 0) (by-step : (x : Exchange P) → I x → I (called P a_step x)) where
  either : (b : Bool) (ws : List (Worked P Answer)) (x : Exchange P) → I x → I (recorded_all P ws x) → I (recorded_all P (cond b [] ws) x)
  either true ws x i j = i
  either false ws x i j = j

  pub run_keeps : (n : ℕ) (x : Exchange P) → I x → I (called P (a_run n) x)
  run_keeps zero x i = i
  run_keeps (suc n) x i =
      let y : I (called P a_step x) = by-step x i in
      either (stops (step_letter (step P x.state).outcome)) (tries P n (step P x.state).after_it) (called P a_step x) y (run_keeps n (called P a_step x) y)

  pub unrung_keep : (cs : List Call) → Unrung cs → (x : Exchange P) → I x → I (called_all P cs x)
  unrung_keep [] u x i = i
  unrung_keep (a_step ∷ cs) u x i = unrung_keep cs u (called P a_step x) (by-step x i)
  unrung_keep (a_run n ∷ cs) u x i = unrung_keep cs u (called P (a_run n) x) (run_keeps n x i)
  unrung_keep (a_ring v ∷ cs) u x i = absurd u

  pub calls_keep : ((v : ℕ) (x : Exchange P) → I x → I (called P (a_ring v) x)) → (cs : List Call) (x : Exchange P) → I x → I (called_all P cs x)
  calls_keep by-ring [] x i = i
  calls_keep by-ring (a_step ∷ cs) x i = calls_keep by-ring cs (called P a_step x) (by-step x i)
  calls_keep by-ring (a_run n ∷ cs) x i = calls_keep by-ring cs (called P (a_run n) x) (run_keeps n x i)
  calls_keep by-ring (a_ring v ∷ cs) x i = calls_keep by-ring cs (called P (a_ring v) x) (by-ring v x i)
