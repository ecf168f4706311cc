-- From meanings to buses. The theorem speaks of what buses mean. An exchange and its double may stand on buses of different kinds,
-- RAM beneath a guard, say, and a pile of other layers; here is why it holds of them all: whatever is called on a bus, what is seen
-- of the exchange follows from what the bus meant when it began.
use Rattle.std.specs.Prelude.{◌≡◌, ℕ, List, [], ◌∷◌, length, None, Option}
use Rattle.bus.specs.Meaning.{Meaning}
use Rattle.stains.specs.Marks.{blank}
use Rattle.noninterference.specs.Processors.{Processor}
use Rattle.noninterference.specs.Histories.{Event, answers, AllClear, Call, Unrung, Exchange, called, called_all}
use Rattle.noninterference.specs.Theorem.{SameMeaning, Alike}

module _ (P : Processor) where
  open P use {Cpu}

  -- An exchange on a bus of some kind B, of which `meaning` says what it means.
  pub record On (B : Type 0) : Type 0 where
    pub cpu : Cpu
    pub visit : Option Cpu
    pub sheet : List ℕ
    pub bus : B
    pub history : List Event

  -- As it begins.
  abbrev pub begun_on : {B : Type 0} → Cpu → B → On B
  begun_on c b = record { cpu = c; visit = None; sheet = blank; bus = b; history = [] }

  -- What is seen of it.
  abbrev pub seen : {B : Type 0} → (B → Meaning) → On B → Exchange P
  seen meaning x = record { state = record { cpu = x.cpu; visit = x.visit; sheet = x.sheet; meaning = meaning x.bus }; history = x.history }

  -- From x to z by a list of calls: each had the outcome that is worked out from what the bus meant before it, as the contracts of
  -- step, run and ring say.
  abbrev pub Went : {B : Type 0} → (B → Meaning) → List Call → On B → On B → Type 0
  Went meaning [] x z = x ≡ z
  Went {B} meaning (c ∷ cs) x z = (y : On B) × (seen meaning y ≡ called P c (seen meaning x)) × Went meaning cs y z

  -- A bus is its meaning: all that is seen of the exchange is worked out from the meaning with which it began.
  abbrev pub ABusIsItsMeaning : {B : Type 0} → (B → Meaning) → Type 0
  ABusIsItsMeaning {B} meaning = (calls : List Call) (x z : On B) → Went meaning calls x z → seen meaning z ≡ called_all P calls (seen meaning x)

  -- So the theorem holds of an exchange on a bus of kind B beside a double on a bus of kind D.
  abbrev pub CleanHandlersLeaveNoTraceOn : {B D : Type 0} → (B → Meaning) → (D → Meaning) → Type 0
  CleanHandlersLeaveNoTraceOn {B} {D} meaning other = (c : Cpu) (b : B) (d : D) → SameMeaning (meaning b) (other d) → (calls : List Call) (x : On B) → Went meaning calls (begun_on c b) x → AllClear x.history → (undisturbed : List Call) (y : On D) → Unrung undisturbed → Went other undisturbed (begun_on c d) y → length (answers y.history) ≡ length (answers x.history) → Alike P (seen meaning x) (seen other y)
