-- Buses of any kind.
use Rattle.std.proofs.Common.{◌≡◌, [], ◌∷◌, length, None, sym, ap, ◌∙◌, subst}
use Rattle.bus.specs.Meaning.{Meaning}
use Rattle.noninterference.specs.Processors.{Processor}
use Rattle.noninterference.specs.Histories.{answers, AllClear, called_all}
use Rattle.noninterference.specs.Theorem.{Alike}
use Rattle.noninterference.specs.Buses.{begun_on, seen, ABusIsItsMeaning, CleanHandlersLeaveNoTraceOn}
use Rattle.noninterference.proofs.Whole.{leave_no_trace}

module _ (P : Processor) where
  pub bus_is_its_meaning : {B : Type 0} (meaning : B → Meaning) → ABusIsItsMeaning P meaning
  bus_is_its_meaning meaning [] x z w = ap (seen P meaning) (sym w)
  bus_is_its_meaning meaning (c ∷ cs) x z w = bus_is_its_meaning meaning cs w.0 z w.2 ∙ ap (called_all P cs) w.1

  module _ (exact : (c d : P.Cpu) → P.mar c d ≡ None → c ≡ d) where
    pub leave_no_trace_on : {B D : Type 0} (meaning : B → Meaning) (other : D → Meaning) → CleanHandlersLeaveNoTraceOn P meaning other
    leave_no_trace_on meaning other c b d e calls x w clear undisturbed y u v l =
        let first = bus_is_its_meaning meaning calls (begun_on P c b) x w in
        let second = bus_is_its_meaning other undisturbed (begun_on P c d) y v in
        let alike = leave_no_trace P exact c (meaning b) calls (seen P other y) (subst (λ z. AllClear z.history) first clear) (record {
          bus = other d;
          equal = e;
          calls = undisturbed;
          unrung = u;
          went = second;
          steps = l ∙ ap (λ z. length (answers z.history)) first;
        }) in
        subst (λ z. Alike P z (seen P other y)) (sym first) alike
