-- A run goes on after a step with the letter S, and else stops.
use Rattle.std.proofs.Common.{◌≡◌, ◌≢◌, ℕ, ◌+◌, cond, is_ok, true, false, Ok, Err, refl, arith}
use Rattle.noninterference.specs.declared.answer.Letter.{Letter}
use Rattle.noninterference.specs.declared.answer.Letter.TheVariants.{Done, Refused, Told, Marred}
use Rattle.noninterference.specs.Steps.{Outcome, stops, counted}

pub stops_unless_done : (l : Letter) → l ≢ Done → stops l ≡ true
stops_unless_done Done h = absurd (h refl)
stops_unless_done Refused h = refl
stops_unless_done Told h = refl
stops_unless_done Marred h = refl

pub counted_is : (o : Outcome) (i : ℕ) → counted o i ≡ i + cond (is_ok o) 1 0
counted_is (Ok a) i = refl
counted_is (Err r) i = omega arith
