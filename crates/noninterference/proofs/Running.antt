-- One step more of a run.
use Rattle.std.proofs.Common.{◌≡◌, ℕ, suc, ◌+◌, ◌-◌, ◌<◌, ◌≤◌, true, false, cond, [], ◌∷◌, Some, Ok, Err, Option, refl, ap, ◌∙◌, arith}
use Rattle.noninterference.specs.declared.answer.Letter.{Letter}
use Rattle.noninterference.specs.declared.answer.Letter.TheVariants.{Done, Refused, Told, Marred}
use Rattle.noninterference.specs.Processors.{Processor}
use Rattle.noninterference.specs.Steps.{Outcome, State, step, step_letter, stops, counted, tries, summed}

module _ (P : Processor) (n i done : ℕ) (last : Option Outcome) (s : State P) (lt : i < n) where
  opened : summed P done last s (tries P (n - i) s) ≡ summed P done last s (tries P (suc (n - (i + 1))) s)
  opened = let e : n - i ≡ suc (n - (i + 1)) = omega arith in ap (λ k. summed P done last s (tries P k s)) e

  pub run_stops : stops (step_letter (step P s).outcome) ≡ true → summed P done last s (tries P (n - i) s) ≡ record { done = counted (step P s).outcome done; why = step_letter (step P s).outcome; last = Some (step P s).outcome; state_after_all = (step P s).after_it }
  run_stops e = opened ∙ ap (λ b. summed P done last s (step P s ∷ cond b [] (tries P (n - (i + 1)) (step P s).after_it))) e

  pub run_on : stops (step_letter (step P s).outcome) ≡ false → summed P done last s (tries P (n - i) s) ≡ summed P (counted (step P s).outcome done) (Some (step P s).outcome) (step P s).after_it (tries P (n - (i + 1)) (step P s).after_it)
  run_on e = opened ∙ ap (λ b. summed P done last s (step P s ∷ cond b [] (tries P (n - (i + 1)) (step P s).after_it))) e

pub counted_few : (o : Outcome) (done i : ℕ) → done ≤ i → counted o done ≤ i + 1
counted_few (Ok a) done i h = omega arith
counted_few (Err r) done i h = omega arith

pub goes_on : (l : Letter) → stops l ≡ false → l ≡ Done
goes_on Done e = refl
goes_on Refused e = let z : ◌≡◌ {A = ℕ} 0 1 = cc in absurd (omega arith)
goes_on Told e = let z : ◌≡◌ {A = ℕ} 0 1 = cc in absurd (omega arith)
goes_on Marred e = let z : ◌≡◌ {A = ℕ} 0 1 = cc in absurd (omega arith)
