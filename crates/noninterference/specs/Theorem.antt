-- Noninterference: clean interrupt handlers leave no trace in the program that they interrupt.
--
-- Two runs are compared. In the one an exchange is rung, and its handlers work on the same registers, the same bus and the same
-- sheet as the program. The other is an undisturbed double, which is never rung and gets the program's steps alone. Stains are
-- taint: they mark what a handler was the last to store, which the double need not have. The promise is a law over whole
-- histories: while no step of the program reads a stained address and every visit that ends gives the processor back, the
-- program can not tell the two runs apart, by any answer, any refusal, or anything that is left for it to read.
use Rattle.std.specs.Prelude.{◌≡◌, ℕ, ◌<◌, false, List, length, None}
use Rattle.bus.specs.Meaning.{Meaning}
use Rattle.reading.specs.Sheets.{stained}
use Rattle.noninterference.specs.Processors.{Processor}
use Rattle.noninterference.specs.Steps.{State}
use Rattle.noninterference.specs.Histories.{answers, AllClear, last_by_handler, Call, Unrung, purged, Exchange, begun, called_all}

-- Two meanings are equal at an address: in what a read gives, and in whether a store is taken.
abbrev pub SameAt : Meaning → Meaning → ℕ → Type 0
SameAt m n a = (m.reads a ≡ n.reads a) × (m.takes a ≡ n.takes a)

-- Two buses mean the same; an address has sixteen bits.
abbrev pub SameMeaning : Meaning → Meaning → Type 0
SameMeaning m n = (a : ℕ) → a < 65536 → SameAt m n a

module _ (P : Processor) where
  open P use {Cpu}

  -- The relation between the two runs: all but the stained is low, and equal. The buses mean the same at every address that is
  -- not stained, and with no visit open the processors are equal in all their parts.
  pub record LowEquivalent (s t : State P) : Type 0 where
    pub meanings : (a : ℕ) → a < 65536 → stained s.sheet a ≡ false → SameAt s.meaning t.meaning a
    pub processors : s.visit ≡ None → s.cpu ≡ t.cpu

  -- The exchange x and its double y gave the same answers and refusals to the steps outside visits, in every part, and end in
  -- low-equivalent states.
  pub record Alike (x y : Exchange P) : Type 0 where
    pub answered : answers x.history ≡ answers y.history
    pub states : LowEquivalent x.state y.state

  -- y is an undisturbed double of x, which began with the processor c on a bus that meant m: it began with the same processor,
  -- on a bus of equal meaning and with a blank sheet of its own, was never rung, and got as many steps, by step or by run, as x
  -- got outside visits, refused ones too.
  pub record Double (c : Cpu) (m : Meaning) (x y : Exchange P) : Type 0 where
    pub bus : Meaning
    pub equal : SameMeaning m bus
    pub calls : List Call
    pub unrung : Unrung calls
    pub went : y ≡ called_all P calls (begun P c bus)
    pub steps : length (answers y.history) ≡ length (answers x.history)

  -- For every processor, bus and list of steps, runs and rings: if no step told a stain and no visit ended marred, every
  -- undisturbed double is alike.
  abbrev pub CleanHandlersLeaveNoTrace : Type 0
  CleanHandlersLeaveNoTrace = (c : Cpu) (m : Meaning) (calls : List Call) (y : Exchange P) → AllClear (called_all P calls (begun P c m)).history → Double c m (called_all P calls (begun P c m)) y → Alike (called_all P calls (begun P c m)) y

  -- There is such a double for every list of calls, so that the promise is never empty: on the same bus, the history purged of
  -- rings and visits, step by step.
  abbrev pub EveryExchangeHasADouble : Type 0
  EveryExchangeHasADouble = (c : Cpu) (m : Meaning) (calls : List Call) → Double c m (called_all P calls (begun P c m)) (called_all P (purged (called_all P calls (begun P c m)).history) (begun P c m))

  -- What a stain means: an address is stained exactly when the last store to it came from a ring or from a step within a visit.
  abbrev pub StainsTellTheLastStore : Type 0
  StainsTellTheLastStore = (c : Cpu) (m : Meaning) (calls : List Call) (a : ℕ) → a < 65536 → stained (called_all P calls (begun P c m)).state.sheet a ≡ last_by_handler (called_all P calls (begun P c m)).history a

  -- The sheet keeps its size, so that no call of a list is refused for it.
  abbrev pub SheetsKeepTheirSize : Type 0
  SheetsKeepTheirSize = (c : Cpu) (m : Meaning) (calls : List Call) → ◌≡◌ {A = ℕ} (length (called_all P calls (begun P c m)).state.sheet) 8192
